-- The counts are no more than the places that are lent.
use Rattle.host.proofs.Tables.{snapped}
use Rattle.host.proofs.by_value.snapshot_pending_sends.Goals as goal

pub returns-clause-dropped : goal.returns-clause-dropped
returns-clause-dropped c = (snapped _ _ _ _ _ _ c.snapshot_pending_sends-r.result.answer c.snapshot_pending_sends-r.ensures.0).0

pub returns-clause-replay : goal.returns-clause-replay
returns-clause-replay c = (snapped _ _ _ _ _ _ c.snapshot_pending_sends-r.result.answer c.snapshot_pending_sends-r.ensures.0).1
