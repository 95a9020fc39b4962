-- `ProducerState::remove`: the gap is closed from the shorter side; behind the last entry there is nothing to remove.
use Rattle.std.proofs.Common.{min, ap, ◌∙◌, arith}
use Rattle.queue.specs.Sizes.{pending_size}
use Rattle.rules.specs.Rings.{without_front, without_last}
use Rattle.rules.specs.declared.rings.Rings.{Rings}
use Rattle.producer.specs.State.{state_of}
use Rattle.producer.specs.View.{queue_of}
use Rattle.producer.proofs.Remove.{ring_stored, removed, removed_none}
use Rattle.producer.proofs.state.ProducerState.remove.Goals.{then-place-count-2, else-place-count-2}
use Rattle.producer.proofs.state.ProducerState.remove.Goals as goal

pub returns-after-place-count-2 : goal.returns-after-place-count-2
returns-after-place-count-2 c =
    let s = state_of c.args.self.now in
    elim c.if-place-count-2.branch [
      | then-place-count-2 w ↦
          let t = state_of w.move_back.new.self in
          let ring = c.encode-self.ensures ∙ w.shorter-is ∙ w.without_front-shorter.ensures ∙ ap (λ (k : Rings). without_front pending_size 1 k.pending) c.decode.ensures in
          (λ j. queue_of (ring_stored (state_of (w.self-is j)) (ring j)))
          ∙ removed s c.args.place t (without_front pending_size 1 s.core.rings.pending) w.move_back.ensures
      | else-place-count-2 w ↦
          let t = state_of w.move_up.new.self in
          let ring = c.encode-self.ensures ∙ w.shorter-is ∙ w.without_last-shorter.ensures ∙ ap (λ (k : Rings). without_last pending_size k.pending) c.decode.ensures in
          (λ j. queue_of (ring_stored (state_of (w.self-is j)) (ring j)))
          ∙ removed s c.args.place t (without_last pending_size s.core.rings.pending) w.move_up.ensures
    ]

pub returns-else-place-count : goal.returns-else-place-count
returns-else-place-count c =
    let many = c.count.ensures ∙ ap (λ (k : Rings). min k.pending.len pending_size) c.decode.ensures in
    removed_none (state_of c.args.self.now) c.args.place (omega (arith, many))
