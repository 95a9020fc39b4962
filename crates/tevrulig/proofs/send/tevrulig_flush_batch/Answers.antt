-- `tevrulig::send::tevrulig_flush_batch`: a refusal answers its number alone.
use Rattle.std.proofs.Common.{[], ap}
use Rattle.queue.specs.Run.{step, flush}
use Rattle.queue.proofs.Values.{no_values}
use Rattle.queue.specs.Told.{told}
use Rattle.producer.specs.View.{view}
use Rattle.tevrulig.proofs.Refused.{refused_is}
use Rattle.tevrulig.proofs.send.tevrulig_flush_batch.Goals as goal

pub returns-in-Err-clause-meets : goal.returns-in-Err-clause-meets
returns-in-Err-clause-meets c =
    let q = view c.args.producer.now in
    let call = flush c.args.publish_time in
    refused_is (step [] call q) (no_values [] call q tt) (view c.flush.new.self) _ c.in-Err.e (ap told c.in-Err.is) c.flush.ensures.meets _ c.number.ensures _
