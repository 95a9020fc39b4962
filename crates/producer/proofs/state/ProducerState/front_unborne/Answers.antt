-- `ProducerState::front_unborne`: with the frames of the entries before the place at the front too, those of all are.
use Rattle.std.proofs.Common.{◌≡◌, ℕ, ◌+◌, ◌-◌, ◌<◌, min, get_or, length, ap, sym, subst, ◌∙◌, arith}
use Rattle.rows.specs.Entry.{decode_entry}
use Rattle.rules.specs.declared.rings.Rings.{Rings}
use Rattle.queue.specs.Sizes.{pending_size}
use Rattle.tables.specs.Unborne.{free}
use Rattle.producer.specs.State.{state_of}
use Rattle.producer.specs.View.{view, queue_of}
use Rattle.producer.specs.declared.state.ProducerState.{ProducerState}
use Rattle.producer.proofs.Free.{Freeing, freeing_start, freeing_passed, freeing_fronted, freeing_end}
use Rattle.producer.proofs.Listed.{few_pending}
use Rattle.producer.proofs.Locate.{length_view}
use Rattle.producer.proofs.Rows.{full_rows}
use Rattle.producer.proofs.state.ProducerState.front_unborne.Goals.{then-chooses, else-chooses}
use Rattle.producer.proofs.state.ProducerState.front_unborne.Goals as goal

pub loop-i-init : goal.loop-i-init
unfolding queue_of
loop-i-init c =
    let s = state_of c.args.self.now in
    let many = c.count-n.ensures ∙ ap (λ (r : Rings). min r.pending.len pending_size) c.decode.ensures in
    freeing_start (free c.args.ids.now) (view c.args.self.now) (c.count-n.result - 0) c.requires (omega (arith, many, few_pending s))

pub front_frames-requires : goal.front_frames-requires
unfolding queue_of
front_frames-requires c = c.loop-i.invariant.fits

pub loop-i-preserved : goal.loop-i-preserved
loop-i-preserved c =
    let s = state_of c.args.self.now in
    let f = full_rows c.args.self.now (omega arith) (omega arith) (omega arith) (omega arith) (omega arith) in
    let k = c.loop-i in
    let p = free c.args.ids.now in
    let q = view c.args.self.now in
    let n = c.count-n.result in
    let many = c.count-n.ensures ∙ ap (λ (r : Rings). min r.pending.len pending_size) c.decode.ensures in
    let i = n - (k.i + 1) in
    let one : n - k.i ≡ i + 1 = omega arith in
    let at : n - k.i - 1 ≡ i = omega arith in
    let before = subst (λ (m : ℕ). Freeing p q (view k.self) m) one k.invariant in
    let x = decode_entry c.row_at-row.result in
    let there = subst (λ (m : ℕ). get_or (view k.self).pending m x ≡ x) at c.row_at-row.ensures.entry in
    let low : i < length q.pending = omega (arith, many, length_view s f) in
    elim c.if-chooses.branch [
      | then-chooses w ↦
          subst (λ (t : ProducerState). Freeing p q (view t) i) (sym w.self-is)
          (freeing_fronted p q (view k.self) (view w.front_frames.new.self) i x before low there (sym c.chooses.ensures ∙ w.if-chooses.true) w.front_frames.ensures)
      | else-chooses w ↦
          subst (λ (t : ProducerState). Freeing p q (view t) i) (sym w.self-is)
          (freeing_passed p q (view k.self) i x before low there (sym c.chooses.ensures ∙ w.if-chooses.false))
    ]

pub returns : goal.returns
returns c =
    let k = c.loop-i in
    let p = free c.args.ids.now in
    let q = view c.args.self.now in
    let none : c.count-n.result - k.i ≡ 0 = omega arith in
    freeing_end p q (view k.self) (subst (λ (m : ℕ). Freeing p q (view k.self) m) none k.invariant)
