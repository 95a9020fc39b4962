-- The count is no more than the places that are lent.
use Rattle.host.proofs.Tables.{timed}
use Rattle.host.proofs.by_value.drain_timed_out_sends.Goals as goal

pub returns : goal.returns
returns c = timed _ _ _ _ c.drain_timed_out_sends-r.result.answer _ c.drain_timed_out_sends-r.ensures.0
