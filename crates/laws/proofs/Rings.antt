-- The list of a ring, over its elements and its capacity: its length and its elements, and what stores and moves of the head do to it. Assumes nothing.
use mathlib.Core.Path.{◌≡◌, refl, ap, sym, ◌∙◌}
use mathlib.Core.List.{List, [], ◌∷◌, ◌++◌, map}
use Prim.Native.Nat.{ℕ, zero, suc, ◌+◌, ◌-◌, ◌%◌, ◌≤◌, ◌<◌, min}
use native.Mathlib.Nat.{mod-lt, mod-mod, add-zero}
use native.Mathlib.Omega.{arith}
use native.Mathlib.Decide.{dec_lt}
use lib.ListN.{length, take, drop, get_or, set, length-append, length-take, length-drop, length-set, get_or-append, drop_of_length-le}
use lib.Seq.{ext_get_or, get_or-take, get_or-drop, get_or-append-add, get_or-set_same, get_or-set_other, get_or_at, take-take}
use Rattle.laws.specs.Ring.{ring, slot}
use Rattle.laws.proofs.Lists.{map_take, map_drop, map_append}
use Rattle.laws.proofs.Slots.{wrap_low, wrap_high, slot_below, slot_slot, slot_turn, get_d_slot_set}

module _ {A : Type 0} (cap : ℕ) (pos : 0 < cap) where
  module _ (a : List A) (len : length a ≡ cap) where
    twice : (d : A) (k : ℕ) → k < cap + cap → get_or (a ++ a) k d ≡ get_or a (k % cap) d
    twice d k h = go (dec_lt k cap)
      where
        go : Dec (k < cap) → get_or (a ++ a) k d ≡ get_or a (k % cap) d
        go (yes p) = get_or-append a a d k (omega arith) ∙ ap (λ (j : ℕ). get_or a j d) (sym (wrap_low p))
        go (no p) =
            let e : k ≡ length a + (k - cap) = omega arith in
            ap (λ (j : ℕ). get_or (a ++ a) j d) e
            ∙ get_or-append-add a a (k - cap) d
            ∙ ap (λ (j : ℕ). get_or a j d) (sym (wrap_high (omega arith) h))

    pub length_ring : (h n : ℕ) → length (ring cap a h n) ≡ min n cap
    unfolding ring
    length_ring h n = simp (length-take, length-drop, length-append) (omega (arith, mod-lt h pos))

    pub ring_at : (d : A) (h n i : ℕ) → i < min n cap → get_or (ring cap a h n) i d ≡ get_or a (slot cap h i) d
    unfolding ring
    ring_at d h n i l =
        get_or-take (min n cap) (drop (h % cap) (a ++ a)) i d l
        ∙ get_or-drop (h % cap) (a ++ a) i d
        ∙ twice d (h % cap + i) (omega (arith, mod-lt h pos))

    -- a list with the ring's elements is the ring's list
    pub ring_is : (d : A) (h n : ℕ) (l : List A) → length l ≡ min n cap
        → ((i : ℕ) → i < min n cap → get_or a (slot cap h i) d ≡ get_or l i d) → ring cap a h n ≡ l
    ring_is d h n l e f =
        ext_get_or d (ring cap a h n) l (length_ring h n ∙ sym e)
        (λ i b. let b' : i < min n cap = omega (arith, length_ring h n) in ring_at d h n i b' ∙ f i b')

  module _ (a : List A) (len : length a ≡ cap) where
    -- a store at a place of the ring is one at that place of the list
    pub ring_set : (h n i : ℕ) (x : A) → i < min n cap → ring cap (set a (slot cap h i) x) h n ≡ set (ring cap a h n) i x
    ring_set h n i x l =
        let e : length (ring cap a h n) ≡ min n cap = length_ring a len h n in
        ring_is (set a (slot cap h i) x) (simp length-set len) x h n (set (ring cap a h n) i x) (simp length-set e)
        (λ k b.
        get_d_slot_set cap pos x a len h k i x (omega arith) (omega arith) (set (ring cap a h n) i x)
        (λ q. ap (λ (j : ℕ). get_or (set (ring cap a h n) i x) j x) q ∙ get_or-set_same (ring cap a h n) i x x (omega arith))
        (λ q. get_or-set_other (ring cap a h n) i k x x q ∙ ring_at a len x h n k b))

    -- a store at a place that the list does not reach
    pub ring_beyond : (h n j : ℕ) (x : A) → min n cap ≤ j → j < cap → ring cap (set a (slot cap h j) x) h n ≡ ring cap a h n
    ring_beyond h n j x l m =
        ring_is (set a (slot cap h j) x) (simp length-set len) x h n (ring cap a h n) (length_ring a len h n)
        (λ k b. get_d_slot_set cap pos x a len h k j x (omega arith) m (ring cap a h n) (λ q. absurd (omega arith)) (λ q. ring_at a len x h n k b))

    -- the same ring with fewer elements
    pub ring_take : (h m n : ℕ) → m ≤ min n cap → ring cap a h m ≡ take m (ring cap a h n)
    unfolding ring
    ring_take h m n l =
        let e : min m cap ≡ m = omega arith in
        ap (λ (k : ℕ). take k (drop (h % cap) (a ++ a))) e ∙ sym (take-take m (min n cap) (drop (h % cap) (a ++ a)) l)

    pub ring_min : (h n : ℕ) → ring cap a h (min n cap) ≡ ring cap a h n
    unfolding ring
    ring_min h n = let e : min (min n cap) cap ≡ min n cap = omega arith in ap (λ (k : ℕ). take k (drop (h % cap) (a ++ a))) e

    pub ring_mod : (h n : ℕ) → ring cap a (h % cap) n ≡ ring cap a h n
    unfolding ring
    ring_mod h n = ap (λ (k : ℕ). take (min n cap) (drop k (a ++ a))) (mod-mod h cap)

    -- the head moves on by k
    pub ring_drop : (d : A) (h n k : ℕ) → k ≤ min n cap → ring cap a (slot cap h k) (min n cap - k) ≡ drop k (ring cap a h n)
    ring_drop d h n k b =
        let e : length (ring cap a h n) ≡ min n cap = length_ring a len h n in
        ring_is a len d (slot cap h k) (min n cap - k) (drop k (ring cap a h n)) (simp length-drop (omega arith))
        (λ i q.
        ap (λ (j : ℕ). get_or a j d) (slot_slot cap h k i)
        ∙ sym (ring_at a len d h n (k + i) (omega arith))
        ∙ sym (get_or-drop k (ring cap a h n) i d))

    -- by a count that may be larger than what is there
    pub ring_drops : (d : A) (h n m : ℕ) → ring cap a (slot cap h (min m (min n cap))) (min n cap - min m (min n cap)) ≡ drop m (ring cap a h n)
    ring_drops d h n m = ring_drop d h n (min m (min n cap)) (omega arith) ∙ go (dec_lt m (min n cap))
      where
        e : length (ring cap a h n) ≡ min n cap
        e = length_ring a len h n

        go : Dec (m < min n cap) → drop (min m (min n cap)) (ring cap a h n) ≡ drop m (ring cap a h n)
        go (yes p) = let k : min m (min n cap) ≡ m = omega arith in ap (λ (j : ℕ). drop j (ring cap a h n)) k
        go (no p) =
            let x : length (ring cap a h n) ≤ min m (min n cap) = omega (arith, e) in
            let y : length (ring cap a h n) ≤ m = omega (arith, e) in
            drop_of_length-le (ring cap a h n) x ∙ sym (drop_of_length-le (ring cap a h n) y)

    -- the head, and what follows it
    pub ring_pop : (d : A) (h n : ℕ) → 0 < min n cap → ring cap a h n ≡ get_or a (slot cap h 0) d ∷ ring cap a (slot cap h 1) (min n cap - 1)
    ring_pop d h n l =
        let e : length (ring cap a (slot cap h 1) (min n cap - 1)) ≡ min (min n cap - 1) cap = length_ring a len (slot cap h 1) (min n cap - 1) in
        ring_is a len d h n (get_or a (slot cap h 0) d ∷ ring cap a (slot cap h 1) (min n cap - 1)) (omega arith) at
      where
        at : (i : ℕ) → i < min n cap → get_or a (slot cap h i) d ≡ get_or (get_or a (slot cap h 0) d ∷ ring cap a (slot cap h 1) (min n cap - 1)) i d
        at zero b = refl
        at (suc k) b =
            let e : 1 + k ≡ suc k = omega arith in
            sym
            (ring_at a len d (slot cap h 1) (min n cap - 1) k (omega arith)
            ∙ ap (λ (j : ℕ). get_or a j d) (slot_slot cap h 1 k ∙ ap (λ (j : ℕ). slot cap h j) e))

    -- a store past the last element, and a length that is one more
    pub ring_push : (h n : ℕ) (x : A) → n < cap → ring cap (set a (slot cap h n) x) h (n + 1) ≡ ring cap a h n ++ x ∷ []
    ring_push h n x l =
        let e : length (ring cap a h n) ≡ min n cap = length_ring a len h n in
        ring_is (set a (slot cap h n) x) (simp length-set len) x h (n + 1) (ring cap a h n ++ x ∷ []) (simp length-append (omega arith))
        (λ k b.
        get_d_slot_set cap pos x a len h k n x (omega arith) l (ring cap a h n ++ x ∷ [])
        (λ q. get_or_at (ring cap a h n) x [] x k (omega arith))
        (λ q. get_or-append (ring cap a h n) (x ∷ []) x k (omega arith) ∙ ring_at a len x h n k (omega arith)))

  -- a store before the head, from which the ring then starts
  pub ring_front : (a : List A) → length a ≡ cap → (h n : ℕ) (x : A) → n < cap
      → ring cap (set a (slot cap h (cap - 1)) x) (slot cap h (cap - 1)) (n + 1) ≡ x ∷ ring cap a h n
  ring_front a len h n x l =
      let b : List A = set a (slot cap h (cap - 1)) x in
      let g : ℕ = slot cap h (cap - 1) in
      let blen : length b ≡ cap = simp length-set len in
      let e : cap - 1 + 1 ≡ cap = omega arith in
      let m : min (n + 1) cap - 1 ≡ n = omega arith in
      let s : slot cap g 0 ≡ g = slot_slot cap h (cap - 1) 0 ∙ ap (λ (j : ℕ). slot cap h j) (add-zero (cap - 1)) in
      let t : slot cap g 1 ≡ h % cap = slot_slot cap h (cap - 1) 1 ∙ ap (λ (j : ℕ). slot cap h j) e ∙ slot_turn cap h in
      let lt : g < length a = omega (arith, slot_below cap h (cap - 1) pos) in
      ring_pop b blen x g (n + 1) (omega arith)
      ∙ ap (λ (j : ℕ). get_or b j x ∷ ring cap b (slot cap g 1) (min (n + 1) cap - 1)) s
      ∙ ap (λ (y : A). y ∷ ring cap b (slot cap g 1) (min (n + 1) cap - 1)) (get_or-set_same a g x x lt)
      ∙ ap (λ (j : ℕ). x ∷ ring cap b j (min (n + 1) cap - 1)) t
      ∙ ap (λ (j : ℕ). x ∷ ring cap b (h % cap) j) m
      ∙ ap (λ (r : List A). x ∷ r) (ring_mod b blen h n ∙ ring_beyond a len h n (cap - 1) x (omega arith) (omega arith))

-- a ring of length 0
pub ring_none : {A : Type 0} (cap : ℕ) (a : List A) (h : ℕ) → ring cap a h 0 ≡ []
unfolding ring
ring_none cap a h = let e : min 0 cap ≡ 0 = omega arith in ap (λ (k : ℕ). take k (drop (h % cap) (a ++ a))) e

-- each element changed
pub ring_map : {A B : Type 0} (f : A → B) (cap : ℕ) (a : List A) (h n : ℕ) → map f (ring cap a h n) ≡ ring cap (map f a) h n
unfolding ring
ring_map {B = B} f cap a h n =
    map_take f (min n cap) (drop (h % cap) (a ++ a))
    ∙ ap (take (min n cap)) (map_drop f (h % cap) (a ++ a) ∙ ap (λ (r : List B). drop (h % cap) r) (map_append f a a))
