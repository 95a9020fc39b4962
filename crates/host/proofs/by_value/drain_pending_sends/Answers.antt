-- The count is no more than the places that are lent.
use Rattle.host.proofs.Tables.{drained}
use Rattle.host.proofs.by_value.drain_pending_sends.Goals as goal

pub returns : goal.returns
returns c = drained _ _ _ _ c.drain_pending_sends-r.result.answer c.drain_pending_sends-r.ensures.0
