-- `ProducerState::move_up`: what is to leave stands at the loop's place.
use Rattle.std.proofs.Common.{◌+◌, min, ap, ◌∙◌, arith}
use Rattle.laws.specs.Ring.{slot}
use Rattle.queue.specs.Sizes.{pending_size}
use Rattle.rules.specs.declared.rings.Rings.{Rings}
use Rattle.producer.specs.State.{state_of}
use Rattle.producer.proofs.Gap.{moving_start, moving_step, moving_end, moved_rows}
use Rattle.producer.proofs.Rows.{full_rows}
use Rattle.producer.proofs.state.ProducerState.move_up.Goals as goal

pub loop-i-init : goal.loop-i-init
loop-i-init c =
    let r = c.args.self.now in
    let f = full_rows r (omega arith) (omega arith) (omega arith) (omega arith) (omega arith) in
    moving_start (state_of r) c.args.place f c.requires

pub loop-i-preserved : goal.loop-i-preserved
loop-i-preserved c =
    let a = c.args in
    let k = c.loop-i in
    let s = state_of k.self in
    let from = c.slot-from.ensures ∙ ap (λ (r : Rings). slot pending_size r.pending.head (k.i + 1)) c.decode.ensures in
    let to = c.slot-to.ensures ∙ ap (λ (r : Rings). slot pending_size r.pending.head k.i) c.decode.ensures in
    let many = c.count-i-end.ensures ∙ ap (λ (r : Rings). min r.pending.len pending_size) c.decode.ensures in
    moved_rows (state_of a.self.now) a.place k.self (k.i + 1) _ _ _
    (λ p. moving_step (state_of a.self.now) a.place s k.i _ _ p from to k.invariant (omega (arith, many)))

pub returns : goal.returns
returns c =
    let a = c.args in
    let k = c.loop-i in
    let many = c.count-i-end.ensures ∙ ap (λ (r : Rings). min r.pending.len pending_size) c.decode.ensures in
    moving_end (state_of a.self.now) a.place (state_of k.self) k.i k.invariant (omega (arith, many))
