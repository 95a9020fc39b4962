-- `tevrulig::lent::tevrulig_drain_timed_out_sends`: a refusal answers its number alone.
use Rattle.std.proofs.Common.{[], ℕ, length, ap}
use Rattle.std.specs.Prelude.{Result}
use Rattle.types.specs.declared.error.ProducerError.{ProducerError}
use Rattle.queue.specs.Run.{step, timeouts}
use Rattle.queue.proofs.Values.{no_values}
use Rattle.producer.specs.Tables.{told_table}
use Rattle.producer.specs.View.{view}
use Rattle.tevrulig.proofs.Refused.{refused_is}
use Rattle.tevrulig.proofs.lent.tevrulig_drain_timed_out_sends.Goals as goal

pub returns-in-Err-clause-meets : goal.returns-in-Err-clause-meets
returns-in-Err-clause-meets c =
    let q = view c.args.producer.now in
    let call = timeouts c.args.now (length c.args.table.now) in
    refused_is (step [] call q) (no_values [] call q tt) (view c.time_out.new.self) _ c.in-Err.e (ap (λ (r : Result ℕ ProducerError). told_table r c.time_out.new.table) c.in-Err.is) c.time_out.ensures.0 _ c.number.ensures _
