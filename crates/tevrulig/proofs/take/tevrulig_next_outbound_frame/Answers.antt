-- `tevrulig::take::tevrulig_next_outbound_frame`: a refusal answers its number alone.
use Rattle.std.proofs.Common.{length, ap}
use Rattle.queue.specs.Run.{step, take}
use Rattle.queue.proofs.Values.{no_values}
use Rattle.producer.specs.Take.{told_frame}
use Rattle.producer.specs.View.{view}
use Rattle.tevrulig.proofs.Refused.{refused_is}
use Rattle.tevrulig.proofs.take.tevrulig_next_outbound_frame.Goals as goal

pub returns-in-Err-clause-meets : goal.returns-in-Err-clause-meets
returns-in-Err-clause-meets c =
    let q = view c.args.producer.now in
    let call = take (length c.args.buffer.now) in
    refused_is (step c.args.store.now call q) (no_values c.args.store.now call q tt) (view c.take.new.self) _ c.in-Err.e (ap (told_frame c.args.store.now c.take.new.buffer) c.in-Err.is) c.take.ensures.meets _ c.number.ensures _
