-- The loops that close a gap in the pending entries, from behind or from the front: what is to leave stands at the loop's place. Assumes nothing.
use Rattle.std.proofs.Common.{◌≡◌, ℕ, List, ◌+◌, ◌<◌, ◌≤◌, min, length, get_or, set, refl, sym, ap, subst, ◌∙◌, arith, lit<, length-set}
use lib.ListN.{get_or-map}
use Rattle.laws.specs.Ring.{slot}
use Rattle.laws.proofs.Slots.{slot_below}
use Rattle.laws.proofs.Loops.{Shift, shift_step, shift_back, shift_end}
use Rattle.laws.proofs.Rings.{ring_drops}
use Rattle.rules.specs.Blank.{no_entry}
use Rattle.rules.specs.Rings.{without_front, without_last}
use Rattle.types.specs.declared.entry.Publish.{Publish}
use Rattle.upkeep.proofs.Keys.{no_id}
use Rattle.producer.specs.View.{entry_of, slots_of}
use Rattle.producer.specs.Settle.{with_slots, GapClosed}
use Rattle.rows.specs.Entry.{decode_publish}
use Rattle.rows.specs.declared.entry.PublishRow.{PublishRow}
use Rattle.producer.specs.State.{State, state_of}
use Rattle.producer.specs.declared.state.ProducerState.{ProducerState}
use Rattle.producer.proofs.Entries.{entries_at, entries_set}
use Rattle.producer.proofs.Full.{Full, slots}
use Rattle.producer.proofs.Rows.{stored_row}
use Rattle.queue.specs.Sizes.{pending_size}

pos : 0 < pending_size
pos = lit< tt

module _ (s₀ : State) (place : ℕ) where
  pub record Moving (s : State) (i : ℕ) : Type 0 where
    pub same : s ≡ with_slots s s₀
    pub ids : length s.pending_ids ≡ pending_size
    pub marks : length s.pending_marks ≡ pending_size
    pub pending : length s.pending ≡ pending_size
    pub shift : Shift pending_size (slots_of s₀) s₀.core.rings.pending.head s₀.core.rings.pending.len place (slots_of s) i

  pub moving_start : Full s₀ → place < min s₀.core.rings.pending.len pending_size → Moving s₀ place
  moving_start f b =
      record {
        same = refl;
        ids = f.ids;
        marks = f.marks;
        pending = f.pending;
        shift = record { len = slots s₀ f; low = b; left = refl };
      }

  -- one entry moves up
  abbrev pub moved : State → ℕ → ℕ → Publish → State
  moved s from to d =
      record {
        core = s.core;
        outbound = s.outbound;
        held = s.held;
        pending = set s.pending to (get_or s.pending from d);
        pending_ids = set s.pending_ids to (get_or s.pending_ids from no_id);
        pending_marks = set s.pending_marks to (get_or s.pending_marks from 0);
      }

  -- the two slots between which it moves: so it does for the three parts of an entry
  module _ (s : State) (i j k : ℕ) (d : Publish) (m : Moving s i) where
    parts : Shift pending_size (slots_of s₀) s₀.core.rings.pending.head s₀.core.rings.pending.len place
        (set (slots_of s) (slot pending_size s₀.core.rings.pending.head i) (get_or (slots_of s) (slot pending_size s₀.core.rings.pending.head j) (entry_of no_id 0 d)))
        k
        → Moving (moved s (slot pending_size s₀.core.rings.pending.head j) (slot pending_size s₀.core.rings.pending.head i) d) k
    parts next =
        let h = s₀.core.rings.pending.head in
        let from = slot pending_size h j in
        let to = slot pending_size h i in
        let is = s.pending_ids in
        let ms = s.pending_marks in
        let ps = s.pending in
        let li : from < length is = omega (arith, slot_below pending_size h j pos, m.ids) in
        let lm : from < length ms = omega (arith, slot_below pending_size h j pos, m.marks) in
        let lp : from < length ps = omega (arith, slot_below pending_size h j pos, m.pending) in
        record {
          same = ap (λ (t : State). with_slots (moved s from to d) t) m.same;
          ids = simp length-set m.ids;
          marks = simp length-set m.marks;
          pending = simp length-set m.pending;
          shift =
              rw
              (entries_set is ms ps to (get_or is from no_id) (get_or ms from 0) (get_or ps from d), ← entries_at is ms ps from d (entry_of no_id 0 d) li lm lp)
              next;
        }

  -- by the slots that the code works out
  by_slots : (s : State) (i j k from to : ℕ) (d : Publish)
      → from ≡ slot pending_size s₀.core.rings.pending.head j → to ≡ slot pending_size s₀.core.rings.pending.head i
      → Moving (moved s (slot pending_size s₀.core.rings.pending.head j) (slot pending_size s₀.core.rings.pending.head i) d) k → Moving (moved s from to d) k
  by_slots s i j k from to d p q m =
      subst (λ (a : ℕ). Moving (moved s a to d) k) (sym p)
      (subst (λ (a : ℕ). Moving (moved s (slot pending_size s₀.core.rings.pending.head j) a d) k) (sym q) m)

  pub moving_step : (s : State) (i from to : ℕ) (d : Publish)
      → from ≡ slot pending_size s₀.core.rings.pending.head (i + 1) → to ≡ slot pending_size s₀.core.rings.pending.head i
      → Moving s i → i + 1 < min s₀.core.rings.pending.len pending_size → Moving (moved s from to d) (i + 1)
  moving_step s i from to d p q m b =
      let next = shift_step pending_size pos (slots_of s₀) s₀.core.rings.pending.head s₀.core.rings.pending.len place (slots_of s) i (entry_of no_id 0 d) m.shift b in
      by_slots s i (i + 1) (i + 1) from to d p q (parts s i (i + 1) (i + 1) d m next)

  pub moving_back : (s : State) (i from to : ℕ) (d : Publish)
      → from ≡ slot pending_size s₀.core.rings.pending.head i → to ≡ slot pending_size s₀.core.rings.pending.head (i + 1)
      → Moving s (i + 1) → Moving (moved s from to d) i
  moving_back s i from to d p q m =
      let next = shift_back pending_size pos (slots_of s₀) s₀.core.rings.pending.head s₀.core.rings.pending.len place (slots_of s) i (entry_of no_id 0 d) m.shift in
      by_slots s (i + 1) i i from to d p q (parts s (i + 1) i i d m next)

  pub moving_end : (s : State) (i : ℕ) → Moving s i → min s₀.core.rings.pending.len pending_size ≤ i + 1
      → GapClosed place (without_last pending_size s₀.core.rings.pending) s₀ s
  moving_end s i m b =
      record {
        same = m.same;
        moved = shift_end pending_size pos (slots_of s₀) s₀.core.rings.pending.head s₀.core.rings.pending.len place (slots_of s) i m.shift b;
      }

  pub moving_front : (s : State) → Moving s 0 → GapClosed place (without_front pending_size 1 s₀.core.rings.pending) s₀ s
  moving_front s m =
      record {
        same = m.same;
        moved =
            ring_drops pending_size pos (slots_of s) m.shift.len no_entry s₀.core.rings.pending.head s₀.core.rings.pending.len 1
            ∙ m.shift.left;
      }

  -- the same of rows, which move whole
  pub moved_rows : (r : ProducerState) (i from to : ℕ) (d : PublishRow) → ((p : Publish) → Moving (moved (state_of r) from to p) i)
      → Moving
      (state_of
      (record r {
        pending = set r.pending to (get_or r.pending from d);
        pending_ids = set r.pending_ids to (get_or r.pending_ids from no_id);
        pending_marks = set r.pending_marks to (get_or r.pending_marks from 0);
      }))
      i
  moved_rows r i from to d m =
      let row = stored_row decode_publish r.pending to (get_or r.pending from d) _ (sym (get_or-map decode_publish r.pending from d)) in
      subst (λ (ps : List Publish). Moving (record (moved (state_of r) from to (decode_publish d)) { pending = ps }) i) (sym row) (m (decode_publish d))
