-- `tevrulig::lent::tevrulig_drain_pending_sends`: a refusal answers its number alone.
use Rattle.std.proofs.Common.{[], ℕ, length, ap}
use Rattle.std.specs.Prelude.{Result}
use Rattle.types.specs.declared.error.ProducerError.{ProducerError}
use Rattle.queue.specs.Run.{step, drain}
use Rattle.queue.proofs.Values.{no_values}
use Rattle.producer.specs.Tables.{told_table}
use Rattle.producer.specs.View.{view}
use Rattle.tevrulig.proofs.Refused.{refused_is}
use Rattle.tevrulig.proofs.lent.tevrulig_drain_pending_sends.Goals as goal

pub returns-in-Err-clause-meets : goal.returns-in-Err-clause-meets
returns-in-Err-clause-meets c =
    let q = view c.args.producer.now in
    let call = drain (length c.args.table.now) in
    refused_is (step [] call q) (no_values [] call q tt) (view c.drain.new.self) _ c.in-Err.e (ap (λ (r : Result ℕ ProducerError). told_table r c.drain.new.table) c.in-Err.is) c.drain.ensures.0 _ c.number.ensures _
