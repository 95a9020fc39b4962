-- An id that one slot bears at most: the entry that is found bears it, and no other does, so that there is nothing else to unmark. Assumes nothing.
use Rattle.std.specs.Prelude.{None, Some, Option}
use Rattle.std.proofs.Common.{◌≡◌, ℕ, ◌+◌, ◌-◌, ◌<◌, ◌≤◌, min, Bool, true, false, eqb, List, [], ◌∷◌, ◌++◌, map, length, get_or, take, drop, sym, refl, ap, ◌∙◌, subst, arith, lit<, suc}
use Rattle.std.proofs.lemmas.List.{get_or-take, get_or-drop}
use lib.ListN.{length-drop, get_or-map}
use Rattle.std.proofs.Common.{length-take-le}
use native.Mathlib.Decide.{dec_lt}
use Rattle.laws.specs.Choice.{pick}
use Rattle.laws.specs.Lists.{without}
use Rattle.laws.specs.Ring.{slot}
use Rattle.laws.proofs.Choice.{and_left, differ}
use Rattle.laws.proofs.Lists.{map_append}
use Rattle.laws.proofs.Rings.{ring_at, length_ring}
use Rattle.laws.proofs.Slots.{slot_below, slot_apart}
use Rattle.types.specs.declared.entry.OpSend.{OpSend}
use Rattle.queue.specs.Settle.{bears, unmark}
use Rattle.queue.specs.Sizes.{pending_size}
use Rattle.rules.specs.Blank.{no_entry, no_publish}
use Rattle.upkeep.specs.Pending.{Key, wanted, located, place_of, first_if, bearing}
use Rattle.upkeep.proofs.Keys.{no_id}
use Rattle.upkeep.proofs.Once.{two, first_holds}
use Rattle.producer.specs.Settle.{key_of}
use Rattle.producer.specs.State.{State}
use Rattle.producer.specs.View.{queue_of, slots_of}
use Rattle.producer.proofs.Entries.{entries_at}
use Rattle.producer.proofs.Full.{Full, slots}

-- none of a list bears the id: unmarking it changes nothing
kept_one : (id : ℕ) (op : OpSend) → bears id op ≡ false → unmark id op ≡ op
kept_one id op e = λ j. record op { answerable = pick (e j) false op.answerable }

kept_all : (id : ℕ) (l : List OpSend) → ((j : ℕ) → j < length l → bears id (get_or l j no_entry) ≡ false) → map (unmark id) l ≡ l
kept_all id [] h = refl
kept_all id (op ∷ l) h =
    let first = kept_one id op (h 0 (omega arith)) in
    let rest = kept_all id l (λ k b. h (suc k) (omega arith)) in
    λ j. first j ∷ rest j

-- nor does any but the one that leaves
pub kept_others : (id : ℕ) (l : List OpSend) (i : ℕ) → i < length l → ((j : ℕ) → j < length l → (j ≡ i → ⊥) → bears id (get_or l j no_entry) ≡ false)
    → map (unmark id) (without l i) ≡ without l i
kept_others id l i b h =
    let before =
    kept_all id (take i l)
    (λ j c.
    let m : j < i = omega (arith, c, length-take-le i l (omega arith)) in
    ap (bears id) (get_or-take i l j no_entry m) ∙ h j (omega arith) (λ e. omega arith)) in
    let behind =
    kept_all id (drop (i + 1) l)
    (λ j c.
    let m : i + 1 + j < length l = omega (arith, c, length-drop (i + 1) l) in
    ap (bears id) (get_or-drop (i + 1) l j no_entry) ∙ h (i + 1 + j) m (λ e. omega arith)) in
    map_append (unmark id) (take i l) (drop (i + 1) l) ∙ (λ j. before j ++ behind j)

module _ (s : State) (f : Full s) (id : ℕ) where
  abbrev pub all : List OpSend
  all = (queue_of s).pending

  many : length all ≡ min s.core.rings.pending.len pending_size
  unfolding queue_of
  many = length_ring pending_size (lit< tt) (slots_of s) (slots s f) s.core.rings.pending.head s.core.rings.pending.len

  -- the id of the entry at a place is that of its slot
  id_at : (j : ℕ) → j < length all → (get_or all j no_entry).sequence_id.0 ≡ (get_or s.pending_ids (slot pending_size s.core.rings.pending.head j) no_id).0
  unfolding queue_of many
  id_at j b =
      let h = s.core.rings.pending.head in
      let n = s.core.rings.pending.len in
      let at = slot pending_size h j in
      let here : j < min n pending_size = omega (arith, many) in
      let below : at < pending_size = slot_below pending_size h j (lit< tt) in
      let li : at < length s.pending_ids = omega (arith, below, f.ids) in
      let lm : at < length s.pending_marks = omega (arith, below, f.marks) in
      let lp : at < length s.pending = omega (arith, below, f.pending) in
      ap (λ (op : OpSend). op.sequence_id.0)
      (ring_at pending_size (lit< tt) (slots_of s) (slots s f) no_entry h n j here
      ∙ entries_at s.pending_ids s.pending_marks s.pending at no_publish no_entry li lm lp)

  slot_in : (j : ℕ) → slot pending_size s.core.rings.pending.head j < length s.pending_ids
  slot_in j = let b = slot_below pending_size s.core.rings.pending.head j (lit< tt) in omega (arith, b, f.ids)

  -- two places that bear it are two slots
  module _ (once : bearing id s.pending_ids ≤ 1) (i : ℕ) (b : i < length all) (there : bears id (get_or all i no_entry) ≡ true) where
    not_there : (j : ℕ) → j < length all → (j ≡ i → ⊥) → bears id (get_or all j no_entry) ≡ false
    not_there j c ne = go (bears id (get_or all j no_entry)) refl
      where
        h : ℕ
        h = s.core.rings.pending.head

        of_slot : (k : ℕ) → k < length all → bears id (get_or all k no_entry) ≡ true
            → eqb ((get_or s.pending_ids (slot pending_size h k) no_id).0) id ≡ true
        of_slot k l e = ap (λ (n : ℕ). eqb n id) (sym (id_at k l)) ∙ e

        apart : (k l : ℕ) → k < l → l < length all → slot pending_size h k ≡ slot pending_size h l → ⊥
        apart k l m n e = slot_apart pending_size h k l (lit< tt) m (omega (arith, many)) e

        both : (k l : ℕ) → k < l → k < length all → l < length all → bears id (get_or all k no_entry) ≡ true → bears id (get_or all l no_entry) ≡ true → ⊥
        both k l m kb lb p q =
            let x = slot pending_size h k in
            let y = slot pending_size h l in
            order x y (apart k l m lb) (slot_in k) (slot_in l) (of_slot k kb p) (of_slot l lb q)
          where
            order : (x y : ℕ) → (x ≡ y → ⊥) → x < length s.pending_ids → y < length s.pending_ids
                → eqb ((get_or s.pending_ids x no_id).0) id ≡ true → eqb ((get_or s.pending_ids y no_id).0) id ≡ true → ⊥
            order x y ne xb yb p q = by (dec_lt x y)
              where
                by : Dec (x < y) → ⊥
                by (yes m) = omega (arith, two id s.pending_ids x y m yb p q, once)
                by (no m) = let z : (x ≡ y → ⊥) = ne in by_less (dec_lt y x)
                  where
                    by_less : Dec (y < x) → ⊥
                    by_less (yes w) = omega (arith, two id s.pending_ids y x w xb q p, once)
                    by_less (no w) = ne (omega arith)

        go : (x : Bool) → bears id (get_or all j no_entry) ≡ x → bears id (get_or all j no_entry) ≡ false
        go false e = e
        go true e = absurd (by (dec_lt i j))
          where
            by : Dec (i < j) → ⊥
            by (yes m) = both i j m b c there e
            by (no m) = by_less (dec_lt j i)
              where
                by_less : Dec (j < i) → ⊥
                by_less (yes w) = both j i w c b e there
                by_less (no w) = ne (omega arith)

    pub only_one : map (unmark id) (without all i) ≡ without all i
    only_one = kept_others id all i b not_there

-- the entry that is found bears the id
pub found_bears : (id : ℕ) (l : List OpSend) (i : ℕ) → located id (map key_of l) ≡ Some i → bears id (get_or l i no_entry) ≡ true
found_bears id l i e =
    let p = any (place_of (wanted id false) keys) e in
    let z : i - 0 ≡ i = omega arith in
    let h = subst (λ (k : ℕ). wanted id true (get_or keys k (key_of no_entry)) ≡ true) z (first_holds (wanted id true) (key_of no_entry) keys 0 i p).1 in
    and_left (bears id (get_or l i no_entry)) true (subst (λ (k : Key). wanted id true k ≡ true) (get_or-map key_of l i no_entry) h)
  where
    keys : List Key
    keys = map key_of l

    any : (m : Option ℕ) → first_if m (place_of (wanted id true) keys) ≡ Some i → place_of (wanted id true) keys ≡ Some i
    any (Some k) q = q
    any None q = differ (cc)
