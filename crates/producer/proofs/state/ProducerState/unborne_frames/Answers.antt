-- `ProducerState::unborne_frames`: the sum is that of the entries passed.
use Rattle.std.proofs.Common.{ℕ, ◌+◌, min, ap, sym, subst, ◌∙◌, arith}
use Rattle.laws.specs.Numbers.{add_sat}
use Rattle.laws.proofs.Choice.{pick_true, pick_false}
use Rattle.rows.specs.Entry.{decode_entry}
use Rattle.rules.specs.declared.rings.Rings.{Rings}
use Rattle.queue.specs.Sizes.{pending_size}
use Rattle.queue.specs.Tables.{frames_of}
use Rattle.tables.specs.Unborne.{free}
use Rattle.producer.specs.State.{state_of}
use Rattle.producer.specs.View.{view}
use Rattle.producer.proofs.Free.{Summing, summing_step, summing_end}
use Rattle.producer.proofs.Listed.{few_pending}
use Rattle.producer.proofs.Locate.{length_view}
use Rattle.producer.proofs.Rows.{full_rows}
use Rattle.producer.proofs.state.ProducerState.unborne_frames.Goals.{then-chooses, else-chooses}
use Rattle.producer.proofs.state.ProducerState.unborne_frames.Goals as goal

pub loop-i-preserved : goal.loop-i-preserved
loop-i-preserved c =
    let s = state_of c.args.self.now in
    let f = full_rows c.args.self.now (omega arith) (omega arith) (omega arith) (omega arith) c.row_at-row.ensures.marks in
    let k = c.loop-i in
    let p = free c.args.ids.now in
    let l = (view c.args.self.now).pending in
    let many = c.count-n.ensures ∙ ap (λ (r : Rings). min r.pending.len pending_size) c.decode.ensures in
    let x = decode_entry c.row_at-row.result in
    let step = summing_step p l k.sum k.i x k.invariant (omega (arith, many, length_view s f)) c.row_at-row.ensures.entry in
    elim c.if-chooses.branch [
      | then-chooses w ↦
          let more = w.more-is ∙ w.frames_of-more.ensures ∙ ap frames_of w.decode-then-chooses.ensures ∙ sym (pick_true (frames_of x.publish.replay) 0 (sym c.chooses.ensures ∙ w.if-chooses.true)) in
          subst (λ (z : ℕ). Summing p l z (k.i + 1)) (sym (c.saturating_add-sum.ensures ∙ ap (add_sat k.sum) more)) step
      | else-chooses w ↦
          let more = w.more-is ∙ sym (pick_false (frames_of x.publish.replay) 0 (sym c.chooses.ensures ∙ w.if-chooses.false)) in
          subst (λ (z : ℕ). Summing p l z (k.i + 1)) (sym (c.saturating_add-sum.ensures ∙ ap (add_sat k.sum) more)) step
    ]

pub returns : goal.returns
returns c =
    let s = state_of c.args.self.now in
    let k = c.loop-i in
    let many = c.count-n.ensures ∙ ap (λ (r : Rings). min r.pending.len pending_size) c.decode.ensures in
    summing_end (free c.args.ids.now) (view c.args.self.now).pending k.sum k.i k.invariant (omega (arith, many, few_pending s))
