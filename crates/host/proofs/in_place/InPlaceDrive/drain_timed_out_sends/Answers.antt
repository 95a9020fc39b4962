-- The count is no more than the places that are lent.
use Rattle.host.proofs.Tables.{timed}
use Rattle.host.proofs.in_place.InPlaceDrive.drain_timed_out_sends.Goals as goal

pub returns : goal.returns
returns c = timed _ _ _ _ c.time_out.result _ c.time_out.ensures.0
