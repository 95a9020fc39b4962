-- `upkeep::pending::Index::find`: no key before the place passed the test, and the loop stops at the first that does.
use Rattle.std.proofs.Common.{◌≡◌, ℕ, ◌<◌, Bool, true, not, ◌&&◌, ◌||◌, eqb, List, length, get_or, sym, ap, ◌∙◌, arith, lit<}
use Rattle.std.specs.Prelude.{Some}
use Rattle.laws.specs.Ring.{slot}
use Rattle.laws.proofs.Slots.{slot_below}
use Rattle.laws.proofs.Loops.{missed_step, missed_hit, missed_all}
use Rattle.types.specs.declared.types.SequenceId.{SequenceId}
use Rattle.upkeep.specs.Pending.{keys, wanted}
use Rattle.upkeep.proofs.Keys.{no_id, length_keys, keys_at}
use Rattle.upkeep.proofs.pending.Index.find.Goals as goal
use Rattle.queue.specs.Sizes.{pending_size}

pos : 0 < pending_size
pos = lit< tt

module _ (is : List SequenceId) (ms : List ℕ) (full : (length is ≡ pending_size) × (length ms ≡ pending_size)) where
  len : length (keys is ms) ≡ pending_size
  len = length_keys is ms (full.0 ∙ sym full.1) ∙ full.0

  -- what is tested at a slot is what is wanted of the key there
  test : (h i id : ℕ) (any : Bool) (at : ℕ) {b : Bool} → at ≡ slot pending_size h i → (eqb ((get_or is at no_id).0) id && (any || not (eqb (get_or ms at 0) 0))) ≡ b
      → wanted id any (get_or (keys is ms) (slot pending_size h i) (0, true)) ≡ b
  test h i id any at q e =
      let lt : slot pending_size h i < length is = omega (arith, slot_below pending_size h i pos, full.0) in
      ap (wanted id any) (keys_at is ms (slot pending_size h i) lt (full.0 ∙ sym full.1))
      ∙ ap (λ (k : ℕ). eqb ((get_or is k no_id).0) id && (any || not (eqb (get_or ms k 0) 0))) (sym q)
      ∙ e

pub loop-i-preserved : goal.loop-i-preserved
loop-i-preserved c =
    let a = c.args in
    let s = a.self in
    let is = s.ids.now in
    let ms = s.marks.now in
    missed_step pending_size pos (wanted a.id.0 a.any) (keys is ms) s.ring.head s.ring.len (len is ms s.full) _ c.loop-i.invariant (0, true) (omega arith)
    (test is ms s.full s.ring.head _ a.id.0 a.any _ c.slot-at.ensures (sym c.bears.ensures ∙ c.if-bears.false))

pub returns-then-bears : goal.returns-then-bears
returns-then-bears c =
    let a = c.args in
    let s = a.self in
    let is = s.ids.now in
    let ms = s.marks.now in
    ap (λ (k : ℕ). Some k) (omega arith)
    ∙ sym
    (missed_hit pending_size pos (wanted a.id.0 a.any) (keys is ms) s.ring.head s.ring.len (len is ms s.full) _ c.loop-i.invariant (0, true) (omega arith)
    (test is ms s.full s.ring.head _ a.id.0 a.any _ c.slot-at.ensures (sym c.bears.ensures ∙ c.if-bears.true)))

pub returns : goal.returns
returns c =
    let a = c.args in
    let s = a.self in
    sym
    (missed_all pending_size pos (wanted a.id.0 a.any) (keys s.ids.now s.marks.now) s.ring.head s.ring.len
    (len s.ids.now s.marks.now s.full) _ c.loop-i.invariant (omega arith))
