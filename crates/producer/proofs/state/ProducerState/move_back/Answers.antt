-- `ProducerState::move_back`: what is to leave stands so many places before its own.
use Rattle.std.proofs.Common.{◌≡◌, ◌+◌, ◌-◌, ap, subst, ◌∙◌, arith}
use Rattle.laws.specs.Ring.{slot}
use Rattle.queue.specs.Sizes.{pending_size}
use Rattle.rules.specs.declared.rings.Rings.{Rings}
use Rattle.producer.specs.State.{state_of}
use Rattle.producer.proofs.Gap.{Moving, moving_start, moving_back, moving_front, moved_rows}
use Rattle.producer.proofs.Rows.{full_rows}
use Rattle.producer.proofs.state.ProducerState.move_back.Goals as goal

pub loop-i-init : goal.loop-i-init
loop-i-init c =
    let r = c.args.self.now in
    let f = full_rows r (omega arith) (omega arith) (omega arith) (omega arith) (omega arith) in
    let all : c.args.place ≡ c.args.place - 0 = omega arith in
    subst (Moving (state_of r) c.args.place (state_of r)) all (moving_start (state_of r) c.args.place f c.requires)

pub loop-i-preserved : goal.loop-i-preserved
loop-i-preserved c =
    let a = c.args in
    let k = c.loop-i in
    let s₀ = state_of a.self.now in
    let s = state_of k.self in
    let i = a.place - (k.i + 1) in
    let one : a.place - k.i ≡ i + 1 = omega arith in
    let from = c.slot-earlier.ensures ∙ ap (λ (r : Rings). slot pending_size r.pending.head (a.place - k.i - 1)) c.decode.ensures ∙ ap (slot pending_size s₀.core.rings.pending.head) (omega arith) in
    let to = c.slot-later.ensures ∙ ap (λ (r : Rings). slot pending_size r.pending.head (a.place - k.i)) c.decode.ensures ∙ ap (slot pending_size s₀.core.rings.pending.head) one in
    moved_rows s₀ a.place k.self i _ _ _
    (λ p. moving_back s₀ a.place s i _ _ p from to (subst (Moving s₀ a.place s) one k.invariant))

pub returns : goal.returns
returns c =
    let a = c.args in
    let k = c.loop-i in
    let none : a.place - k.i ≡ 0 = omega arith in
    moving_front (state_of a.self.now) a.place (state_of k.self) (subst (Moving (state_of a.self.now) a.place (state_of k.self)) none k.invariant)
