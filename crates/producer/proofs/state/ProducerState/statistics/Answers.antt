-- `ProducerState::statistics`: the pending entries are as many as the ring's length says.
use Rattle.std.proofs.Common.{min, ap, sym, ◌∙◌, arith}
use Rattle.queue.specs.Run.{statistics}
use Rattle.queue.specs.Sizes.{pending_size}
use Rattle.rules.specs.declared.rings.Rings.{Rings}
use Rattle.producer.specs.State.{state_of}
use Rattle.producer.specs.View.{queue_of}
use Rattle.producer.proofs.Locate.{length_view}
use Rattle.producer.proofs.Meets.{asked}
use Rattle.producer.proofs.Rows.{full_rows}
use Rattle.producer.proofs.state.ProducerState.statistics.Goals as goal

pub returns : goal.returns
unfolding queue_of
returns c =
    let r = c.args.self.now in
    let s = state_of r in
    let f = full_rows r (omega arith) (omega arith) (omega arith) (omega arith) (omega arith) in
    let many = ap (λ (k : Rings). min k.pending.len pending_size) c.decode.ensures ∙ sym (length_view s f) in
    asked r statistics (c.stats_of.ensures ∙ λ j. record { counters = s.core.counters; pending_queue_size = many j })
