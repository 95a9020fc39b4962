-- `ProducerState::hold`: the row behind the last one, and the ring one longer.
use Rattle.std.proofs.Common.{refl, ap, ◌∙◌}
use Rattle.queue.specs.Sizes.{held_size}
use Rattle.rows.specs.Message.{decode_single}
use Rattle.rules.specs.Rings.{place_behind, longer_behind}
use Rattle.rules.specs.declared.rings.Rings.{Rings}
use Rattle.plans.specs.State.{core_rings}
use Rattle.producer.specs.State.{state_of}
use Rattle.producer.proofs.Behind.{behind}
use Rattle.producer.proofs.state.ProducerState.hold.Goals as goal

pub returns : goal.returns
returns c =
    let r = c.args.self.now in
    let s = state_of r in
    let place = c.place_behind.ensures ∙ ap (λ (k : Rings). place_behind held_size k.held) c.decode.ensures in
    let ring = c.encode-self.ensures ∙ c.longer_behind.ensures ∙ ap (λ (k : Rings). longer_behind held_size k.held) c.decode.ensures in
    let slots = behind decode_single (λ x. x) r.held c.store_at.new.slots c.place_behind.result _ c.args.single (decode_single c.args.single) c.store_at.ensures place refl in
    λ j. record s { core = core_rings (record s.core.rings { held = ring j }) s.core; held = slots j }
