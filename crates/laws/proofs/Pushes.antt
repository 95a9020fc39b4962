-- Pushes onto lists and rings that may be full, over the elements and the capacity. Assumes nothing.
use Rattle.std.specs.Prelude.{Option, Some, None}
use mathlib.Core.Path.{◌≡◌, refl, ap, ◌∙◌}
use mathlib.Core.List.{List, [], ◌∷◌, ◌++◌}
use mathlib.Core.Bool.{Bool}
use Prim.Native.Nat.{ℕ, ◌+◌, ◌-◌, ◌≤◌, ◌<◌, min}
use native.Mathlib.Omega.{arith}
use native.Mathlib.Decide.{dec_lt}
use lib.ListN.{length, length-set, length-append}
use lib.Dec.{ltb}
use borrow.Author.Tests.{lt-ltb, le-ltb}
use Rattle.laws.specs.Choice.{pick}
use Rattle.laws.specs.Lists.{onto, front, front_all, set_at}
use Rattle.laws.specs.Ring.{ring, slot}
use Rattle.laws.proofs.Rings.{length_ring, ring_push, ring_front}

-- where there is room
pub onto_room : {A : Type 0} (most : ℕ) (l : List A) (x : A) → length l < most → onto most l x ≡ l ++ x ∷ []
onto_room most l x h = rw (lt-ltb (length l) most h)

pub front_room : {A : Type 0} (most : ℕ) (xs l : List A) → length xs + length l ≤ most → front_all most xs l ≡ xs ++ l
front_room most [] l h = refl
front_room most (x ∷ xs) l h =
    let b : length (xs ++ l) < most = rw length-append (omega arith) in
    ap (front most x) (front_room most xs l (omega arith))
    ∙ ap (λ (t : Bool). pick t (x ∷ (xs ++ l)) (xs ++ l)) (lt-ltb (length (xs ++ l)) most b)

pub length_set_at : {A : Type 0} (o : Option ℕ) (l : List A) (x : A) → length (set_at o l x) ≡ length l
length_set_at None l x = refl
length_set_at (Some i) l x = simp length-set

module _ {A : Type 0} (cap : ℕ) (pos : 0 < cap) (a : List A) (len : length a ≡ cap) (h n : ℕ) (x : A) where
  e : length (ring cap a h n) ≡ min n cap
  e = length_ring cap pos a len h n

  -- a store behind the last element where there is room, and the length that is then one more
  pub ring_onto : ring cap (set_at (pick (ltb n cap) (Some (slot cap h n)) None) a x) h (pick (ltb n cap) (n + 1) n) ≡ onto cap (ring cap a h n) x
  ring_onto = go (dec_lt n cap)
    where
      go : Dec (n < cap) → ring cap (set_at (pick (ltb n cap) (Some (slot cap h n)) None) a x) h (pick (ltb n cap) (n + 1) n) ≡ onto cap (ring cap a h n) x
      go (yes p) = rw (lt-ltb n cap p, lt-ltb (length (ring cap a h n)) cap (omega (arith, e))) (ring_push cap pos a len h n x p)
      go (no p) = rw (le-ltb n cap (omega arith), le-ltb (length (ring cap a h n)) cap (omega (arith, e)))

  -- a store before the first element where there is room, and the ring that then starts there
  pub ring_before : ring cap (set_at (pick (ltb n cap) (Some (slot cap h (cap - 1))) None) a x) (pick (ltb n cap) (slot cap h (cap - 1)) h) (pick (ltb n cap) (n + 1) n)
      ≡ front cap x (ring cap a h n)
  ring_before = go (dec_lt n cap)
    where
      go : Dec (n < cap)
          → ring cap (set_at (pick (ltb n cap) (Some (slot cap h (cap - 1))) None) a x) (pick (ltb n cap) (slot cap h (cap - 1)) h) (pick (ltb n cap) (n + 1) n)
          ≡ front cap x (ring cap a h n)
      go (yes p) = rw (lt-ltb n cap p, lt-ltb (length (ring cap a h n)) cap (omega (arith, e))) (ring_front cap pos a len h n x p)
      go (no p) = rw (le-ltb n cap (omega arith), le-ltb (length (ring cap a h n)) cap (omega (arith, e)))
