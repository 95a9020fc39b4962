-- The loops over a ring, over its elements and its capacity: for each an invariant, with how it begins, goes on and ends. Assumes nothing.
use Rattle.std.specs.Prelude.{Some, None}
use mathlib.Core.Path.{◌≡◌, refl, ap, sym, ◌∙◌}
use mathlib.Core.List.{List, map}
use mathlib.Core.Bool.{Bool, true, false}
use Prim.Native.Nat.{ℕ, ◌+◌, ◌-◌, ◌≤◌, ◌<◌, min}
use native.Mathlib.Omega.{arith}
use lib.ListN.{length, take, drop, get_or, set, length-set}
use Rattle.laws.specs.Ring.{ring, slot}
use Rattle.laws.specs.Lists.{without, first_at}
use Rattle.laws.proofs.Rings.{length_ring, ring_at, ring_set, ring_take}
use Rattle.laws.proofs.Lists.{without_step, without_back, without_last, rest, rest_step, rest_end, first_hit, first_miss, first_none}

-- the elements on one side of p move over: what is to go stands at i
pub record Shift {A : Type 0} (cap : ℕ) (a₀ : List A) (h n p : ℕ) (a : List A) (i : ℕ) : Type 0 where
  pub len : length a ≡ cap
  pub low : i < min n cap
  pub left : without (ring cap a h n) i ≡ without (ring cap a₀ h n) p

-- each element up to i is changed
pub record Each {A : Type 0} (cap : ℕ) (f : A → A) (a₀ : List A) (h n : ℕ) (a : List A) (i : ℕ) : Type 0 where
  pub len : length a ≡ cap
  pub low : i ≤ min n cap
  pub left : rest f (ring cap a h n) i ≡ map f (ring cap a₀ h n)

-- none before i passes
pub record Missed {A : Type 0} (cap : ℕ) (p : A → Bool) (a : List A) (h n i : ℕ) : Type 0 where
  pub low : i ≤ min n cap
  pub left : first_at p i (drop i (ring cap a h n)) ≡ first_at p 0 (ring cap a h n)

module _ {A : Type 0} (cap : ℕ) (pos : 0 < cap) where
  pub shift_step : (a₀ : List A) (h n p : ℕ) (a : List A) (i : ℕ) (d : A) → Shift cap a₀ h n p a i → i + 1 < min n cap
      → Shift cap a₀ h n p (set a (slot cap h i) (get_or a (slot cap h (i + 1)) d)) (i + 1)
  shift_step a₀ h n p a i d s b =
      let l : List A = ring cap a h n in
      let e : length l ≡ min n cap = length_ring cap pos a s.len h n in
      record {
        len = simp length-set s.len;
        low = b;
        left =
            ap (λ (r : List A). without r (i + 1))
            (ring_set cap pos a s.len h n i (get_or a (slot cap h (i + 1)) d) s.low
            ∙ ap (set l i) (sym (ring_at cap pos a s.len d h n (i + 1) b)))
            ∙ without_step l i d (omega arith)
            ∙ s.left;
      }

  pub shift_back : (a₀ : List A) (h n p : ℕ) (a : List A) (i : ℕ) (d : A) → Shift cap a₀ h n p a (i + 1)
      → Shift cap a₀ h n p (set a (slot cap h (i + 1)) (get_or a (slot cap h i) d)) i
  shift_back a₀ h n p a i d s =
      let l : List A = ring cap a h n in
      let e : length l ≡ min n cap = length_ring cap pos a s.len h n in
      record {
        len = simp length-set s.len;
        low = omega (arith, s.low);
        left =
            ap (λ (r : List A). without r i)
            (ring_set cap pos a s.len h n (i + 1) (get_or a (slot cap h i) d) s.low
            ∙ ap (set l (i + 1)) (sym (ring_at cap pos a s.len d h n i (omega (arith, s.low)))))
            ∙ without_back l i d (omega (arith, s.low))
            ∙ s.left;
      }

  pub shift_end : (a₀ : List A) (h n p : ℕ) (a : List A) (i : ℕ) → Shift cap a₀ h n p a i → min n cap ≤ i + 1
      → ring cap a h (min n cap - 1) ≡ without (ring cap a₀ h n) p
  shift_end a₀ h n p a i s b =
      let l : List A = ring cap a h n in
      let e : length l ≡ min n cap = length_ring cap pos a s.len h n in
      let k : min n cap - 1 ≡ i = omega (arith, s.low) in
      ring_take cap pos a s.len h (min n cap - 1) n (omega arith)
      ∙ ap (λ (j : ℕ). take j l) k
      ∙ sym (without_last l i (omega arith))
      ∙ s.left

  pub each_start : (f : A → A) (a : List A) (h n : ℕ) → length a ≡ cap → Each cap f a h n a 0
  each_start f a h n e = record { len = e; low = omega arith; left = refl }

  pub each_step : (f : A → A) (a₀ : List A) (h n : ℕ) (a : List A) (i : ℕ) (d : A) → Each cap f a₀ h n a i → i < min n cap
      → Each cap f a₀ h n (set a (slot cap h i) (f (get_or a (slot cap h i) d))) (i + 1)
  each_step f a₀ h n a i d s b =
      let l : List A = ring cap a h n in
      let e : length l ≡ min n cap = length_ring cap pos a s.len h n in
      record {
        len = simp length-set s.len;
        low = omega arith;
        left =
            ap (λ (r : List A). rest f r (i + 1))
            (ring_set cap pos a s.len h n i (f (get_or a (slot cap h i) d)) b ∙ ap (λ (x : A). set l i (f x)) (sym (ring_at cap pos a s.len d h n i b)))
            ∙ rest_step f l i d (omega arith)
            ∙ s.left;
      }

  pub each_end : (f : A → A) (a₀ : List A) (h n : ℕ) (a : List A) (i : ℕ) → Each cap f a₀ h n a i → min n cap ≤ i → ring cap a h n ≡ map f (ring cap a₀ h n)
  each_end f a₀ h n a i s b =
      let e : length (ring cap a h n) ≡ min n cap = length_ring cap pos a s.len h n in
      sym (rest_end f (ring cap a h n) i (omega arith)) ∙ s.left

  module _ (p : A → Bool) (a : List A) (h n : ℕ) (len : length a ≡ cap) (i : ℕ) (m : Missed cap p a h n i) where
    pub missed_step : (d : A) → i < min n cap → p (get_or a (slot cap h i) d) ≡ false → Missed cap p a h n (i + 1)
    missed_step d b t =
        let l : List A = ring cap a h n in
        let e : length l ≡ min n cap = length_ring cap pos a len h n in
        record { low = omega arith; left = first_miss p l i d (omega arith) (ap p (ring_at cap pos a len d h n i b) ∙ t) ∙ m.left }

    pub missed_hit : (d : A) → i < min n cap → p (get_or a (slot cap h i) d) ≡ true → first_at p 0 (ring cap a h n) ≡ Some i
    missed_hit d b t =
        let l : List A = ring cap a h n in
        let e : length l ≡ min n cap = length_ring cap pos a len h n in
        sym m.left ∙ first_hit p l i d (omega arith) (ap p (ring_at cap pos a len d h n i b) ∙ t)

    pub missed_all : min n cap ≤ i → first_at p 0 (ring cap a h n) ≡ None
    missed_all b =
        let e : length (ring cap a h n) ≡ min n cap = length_ring cap pos a len h n in sym m.left ∙ first_none p (ring cap a h n) i (omega arith)
