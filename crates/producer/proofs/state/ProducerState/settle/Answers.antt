-- `ProducerState::settle`: the place is that of the definitions, and the steps leave the entries without it.
use Rattle.std.specs.Prelude.{Err, Option, Some, ℕ}
use Rattle.std.proofs.Common.{◌≡◌, ℕ, ◌<◌, min, List, map, length, sym, refl, ap, ◌∙◌, subst, arith}
use Rattle.std.proofs.lemmas.Result.{err_from_is_err_and}
use lib.ListN.{length-map}
use Rattle.laws.specs.Lists.{without}
use Rattle.laws.specs.Ring.{ring}
use Rattle.types.specs.declared.error.ProducerError.TheVariants.{NotAnswerable}
use Rattle.types.specs.declared.entry.OpSend.{OpSend}
use Rattle.rows.specs.Entry.{decode_entry}
use Rattle.queue.specs.Queue.{Queue, with_pending}
use Rattle.queue.specs.Sizes.{pending_size}
use Rattle.upkeep.specs.Pending.{keys, located}
use Rattle.producer.specs.View.{queue_of, view}
use Rattle.queue.specs.Settle.{unmark}
use Rattle.producer.specs.declared.state.ProducerState.{ProducerState}
use Rattle.producer.specs.Settle.{key_of, settles_at}
use Rattle.producer.specs.State.{State, state_of}
use Rattle.producer.proofs.Full.{Full}
use Rattle.producer.proofs.Rows.{full_rows}
use Rattle.producer.proofs.Once.{only_one, found_bears}
use Rattle.producer.proofs.Receipts.{map_without}
use Rattle.producer.proofs.Locate.{keys_view, located_below, length_view, unmarked_view}
use Rattle.producer.proofs.Plans.{or_ok, or_err}
use Rattle.producer.proofs.state.ProducerState.settle.Goals.{then-bearing-gt1, else-bearing-gt1}
use Rattle.producer.proofs.state.ProducerState.settle.Goals as goal

-- a place that was found, against each of the lengths in question
record InRange (s : State) (i : ℕ) : Type 0 where
  listed : i < length (queue_of s).pending

in_range : (s : State) → Full s → (id : ℕ) (r : Option ℕ) → r ≡ located id (map key_of (queue_of s).pending) → (i : ℕ) → r ≡ Some i → InRange s i
in_range s f id r e i at =
    let b : i < length (map key_of (queue_of s).pending) = located_below id (map key_of (queue_of s).pending) i (sym e ∙ at) in
    let l : length (map key_of (queue_of s).pending) ≡ length (queue_of s).pending = length-map (queue_of s).pending key_of in
    let m : length (queue_of s).pending ≡ min s.core.rings.pending.len pending_size = length_view s f in
    record { listed = omega arith }

-- what is searched are the keys of the pending entries
placed : (s : State) → Full s → (id : ℕ) (r : Option ℕ) → r ≡ located id (ring pending_size (keys s.pending_ids s.pending_marks) s.core.rings.pending.head s.core.rings.pending.len)
    → r ≡ located id (map key_of (queue_of s).pending)
placed s f id r e = e ∙ ap (located id) (sym (keys_view s f))

-- the queue without the entry at a place
abbrev gone : ℕ → Queue → Queue
gone i q = with_pending (without q.pending i) q

pub returns : goal.returns
returns c =
    let id = c.args.id.0 in
    let s = state_of c.args.self.now in
    let f : Full s = full_rows c.args.self.now (omega arith) (omega arith) (omega arith) (omega arith) c.place_of.ensures.marks in
    let i = c.in_ok-place.place in
    let at = or_ok c.place_of.result NotAnswerable i (sym c.ok_or.ensures.value ∙ c.in_ok-place.was) in
    let e = placed s f id _ c.place_of.ensures.place in
    let b = in_range s f id _ e i at in
    subst (settles_at id c.args.self.now _ _) (sym at ∙ e) (
      decode_entry c.row_at-row.result,
      b.listed,
      refl,
      c.row_at-row.ensures.entry,
      c.remove.ensures
          ∙ elim c.if-bearing-gt1.branch [
            | then-bearing-gt1 w ↦
                ap (λ (r : ProducerState). gone i (view r)) w.self-is ∙ ap (gone i) (ap queue_of w.unmark_all.ensures ∙ unmarked_view id s)
            | else-bearing-gt1 w ↦
                ap (λ (r : ProducerState). gone i (view r)) w.self-is
                ∙ ap (λ (l : List OpSend). with_pending l (queue_of s)) (sym (only_one s f id (omega (arith, c.bearing.ensures, w.if-bearing-gt1.false)) i b.listed (found_bears id (queue_of s).pending i (sym e ∙ at))) ∙ map_without (unmark id) (queue_of s).pending i)
          ],
    )

pub returns-in_err-place : goal.returns-in_err-place
returns-in_err-place c =
    let id = c.args.id.0 in
    let s = state_of c.args.self.now in
    let f : Full s = full_rows c.args.self.now (omega arith) (omega arith) (omega arith) (omega arith) c.place_of.ensures.marks in
    let none = or_err c.place_of.result NotAnswerable _ (sym c.ok_or.ensures.value ∙ c.in_err-place.was) in
    let p = err_from_is_err_and c.from_residual.result c.from_residual.ensures.1 in
    rw (p.1, p.2) (subst (settles_at id c.args.self.now _ c.args.self.now) (sym none.0 ∙ placed s f id _ c.place_of.ensures.place) (ap Err (sym none.1), refl))
