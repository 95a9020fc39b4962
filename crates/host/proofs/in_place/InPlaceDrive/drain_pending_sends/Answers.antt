-- The count is no more than the places that are lent.
use Rattle.host.proofs.Tables.{drained}
use Rattle.host.proofs.in_place.InPlaceDrive.drain_pending_sends.Goals as goal

pub returns : goal.returns
returns c = drained _ _ _ _ c.drain.result c.drain.ensures.0
