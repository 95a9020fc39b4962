-- Where an id stands among the pending entries: the search on ids and marks is that of the definitions. Assumes nothing.
use Rattle.std.specs.Prelude.{None, Option, Some, ℕ}
use Rattle.std.proofs.Common.{◌≡◌, ℕ, ◌+◌, ◌<◌, ◌≤◌, min, true, false, List, map, length, get_or, sym, ap, ◌∙◌, arith, lit<}
use native.Mathlib.Decide.{dec_lt}
use lib.ListN.{get_or-eq_default, get_or-map}
use Rattle.laws.specs.Ring.{ring, slot}
use Rattle.laws.proofs.Slots.{slot_below}
use Rattle.laws.proofs.Lists.{first_below}
use Rattle.laws.proofs.Rings.{ring_map, length_ring, ring_at}
use Rattle.upkeep.specs.Pending.{Key, keys, wanted, place_of, first_if, located}
use Rattle.upkeep.proofs.Keys.{no_id}
use Rattle.types.specs.declared.entry.OpSend.{OpSend}
use Rattle.types.specs.declared.entry.Publish.{Publish}
use Rattle.queue.specs.Queue.{with_pending}
use Rattle.queue.specs.Settle.{unmark}
use Rattle.queue.specs.Sizes.{pending_size}
use Rattle.producer.specs.View.{queue_of, slots_of, entry_of, view}
use Rattle.producer.specs.Settle.{key_of, unmarked}
use Rattle.rows.specs.Entry.{decode_publish}
use Rattle.rows.specs.declared.entry.PublishRow.{PublishRow}
use Rattle.producer.specs.State.{State, state_of}
use Rattle.producer.specs.declared.state.ProducerState.{ProducerState}
use Rattle.producer.proofs.Entries.{keys_entries, entries_at, unmarked_entries}
use Rattle.producer.proofs.Full.{Full, slots}

-- the ids and marks that are searched are those of the pending entries
pub keys_view : (s : State) → Full s
    → map key_of (queue_of s).pending ≡ ring pending_size (keys s.pending_ids s.pending_marks) s.core.rings.pending.head s.core.rings.pending.len
unfolding queue_of
keys_view s f =
    ring_map key_of pending_size (slots_of s) s.core.rings.pending.head s.core.rings.pending.len
    ∙ ap (λ (l : List Key). ring pending_size l s.core.rings.pending.head s.core.rings.pending.len)
    (keys_entries s.pending_ids s.pending_marks s.pending (f.ids ∙ sym f.pending))

pub length_view : (s : State) → Full s → length (queue_of s).pending ≡ min s.core.rings.pending.len pending_size
unfolding queue_of
length_view s f = length_ring pending_size (lit< tt) (slots_of s) (slots s f) s.core.rings.pending.head s.core.rings.pending.len

-- a place that was found lies among the entries
pub located_below : (id : ℕ) (l : List Key) (i : ℕ) → located id l ≡ Some i → i < length l
located_below id l i e = go (place_of (wanted id false) l) e
  where
    go : (m : Option ℕ) → first_if m (place_of (wanted id true) l) ≡ Some i → i < length l
    go (Some k) q =
        let b : i < 0 + length l = first_below (wanted id true) l 0 i q in
        omega arith
    go None q = absurd (let z : ◌≡◌ {A = ℕ} 0 1 = cc in omega arith)

-- what is put together from the arrays at a place is the entry there
pub entry_there : (s : State) → Full s → (place at : ℕ) → at ≡ slot pending_size s.core.rings.pending.head place → (d : Publish) (r : OpSend)
    → r ≡ entry_of (get_or s.pending_ids at no_id) (get_or s.pending_marks at 0) (get_or s.pending at d)
    → get_or (queue_of s).pending place r ≡ r
unfolding queue_of
entry_there s f place at q d r e = go (dec_lt place (min n pending_size))
  where
    h : ℕ
    h = s.core.rings.pending.head

    n : ℕ
    n = s.core.rings.pending.len

    below : at < pending_size
    below = omega (arith, q, slot_below pending_size h place (lit< tt))

    go : Dec (place < min n pending_size) → get_or (ring pending_size (slots_of s) h n) place r ≡ r
    go (yes b) =
        let li : at < length s.pending_ids = omega (arith, below, f.ids) in
        let lm : at < length s.pending_marks = omega (arith, below, f.marks) in
        let lp : at < length s.pending = omega (arith, below, f.pending) in
        ring_at pending_size (lit< tt) (slots_of s) (slots s f) r h n place b
        ∙ ap (λ (k : ℕ). get_or (slots_of s) k r) (sym q)
        ∙ entries_at s.pending_ids s.pending_marks s.pending at d r li lm lp
        ∙ sym e
    go (no b) =
        let l : length (ring pending_size (slots_of s) h n) ≤ place = omega (arith, length_ring pending_size (lit< tt) (slots_of s) (slots s f) h n) in
        get_or-eq_default (ring pending_size (slots_of s) h n) r l

-- the same of rows
pub row_there : (r : ProducerState) → Full (state_of r) → (place at : ℕ) → at ≡ slot pending_size r.core.rings.pending.head place → (d : PublishRow)
    → let op = entry_of (get_or r.pending_ids at no_id) (get_or r.pending_marks at 0) (decode_publish (get_or r.pending at d)) in
    get_or (view r).pending place op ≡ op
row_there r f place at q d =
    entry_there (state_of r) f place at q (decode_publish d) _
    (ap (entry_of (get_or r.pending_ids at no_id) (get_or r.pending_marks at 0)) (sym (get_or-map decode_publish r.pending at d)))

-- unmarking the slots unmarks the pending entries
pub unmarked_view : (id : ℕ) (s : State) → queue_of (unmarked id s) ≡ with_pending (map (unmark id) (queue_of s).pending) (queue_of s)
unfolding queue_of
unmarked_view id s =
    let h = s.core.rings.pending.head in
    let n = s.core.rings.pending.len in
    let e =
    ap (λ (l : List OpSend). ring pending_size l h n) (unmarked_entries id s.pending_ids s.pending_marks s.pending)
    ∙ sym (ring_map (unmark id) pending_size (slots_of s) h n) in
    λ j. with_pending (e j) (queue_of s)
