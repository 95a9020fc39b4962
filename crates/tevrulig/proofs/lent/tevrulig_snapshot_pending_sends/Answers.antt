-- `tevrulig::lent::tevrulig_snapshot_pending_sends`: a refusal answers its number alone.
use Rattle.std.proofs.Common.{[], length, ap}
use Rattle.std.specs.Prelude.{Result}
use Rattle.types.specs.declared.error.ProducerError.{ProducerError}
use Rattle.tables.specs.declared.snapshot.Snapshot.{Snapshot}
use Rattle.queue.specs.Run.{step, snapshot}
use Rattle.queue.proofs.Values.{no_values}
use Rattle.producer.specs.Tables.{told_snapshot}
use Rattle.producer.specs.View.{view}
use Rattle.tevrulig.proofs.Refused.{refused_is}
use Rattle.tevrulig.proofs.lent.tevrulig_snapshot_pending_sends.Goals as goal

pub returns-in-Err-clause-meets : goal.returns-in-Err-clause-meets
returns-in-Err-clause-meets c =
    let q = view c.args.producer.now in
    let call = snapshot (length c.args.dropped.now) (length c.args.replay.now) in
    refused_is (step [] call q) (no_values [] call q tt) (view c.snapshot.new.self) _ c.in-Err.e (ap (λ (r : Result Snapshot ProducerError). told_snapshot r c.snapshot.new.dropped c.snapshot.new.replay) c.in-Err.is) c.snapshot.ensures.0 _ c.number.ensures _
