-- The loop that lists what a ring holds: its elements up to i stand in the array. Assumes nothing.
use Rattle.std.proofs.Common.{◌≡◌, ℕ, ◌+◌, ◌<◌, ◌≤◌, min, List, [], ◌∷◌, ◌++◌, length, get_or, take, drop, set, sym, ap, ◌∙◌, ◌%◌, add-one, arith, length-set, length-take, take_all, take-suc, take-suc-set}
use Rattle.laws.specs.Ring.{ring}
use Rattle.producer.specs.View.{queue_of, slots_of}
use Rattle.producer.specs.State.{State}
use Rattle.queue.specs.Sizes.{pending_size}

-- one more element of l at its place of a
pub take_copied : {A : Type 0} (l a : List A) (i : ℕ) (x : A) → i < length l → i < length a → get_or l i x ≡ x → take i a ≡ take i l
    → take (i + 1) (set a i x) ≡ take (i + 1) l
take_copied {A} l a i x p q there same =
    ap (λ (k : ℕ). take k (set a i x)) (add-one i)
    ∙ take-suc-set a i x q
    ∙ (λ j. same j ++ (sym there j ∷ []))
    ∙ sym (take-suc l i x p)
    ∙ ap (λ (k : ℕ). take k l) (sym (add-one i))

-- a ring's list is at most as long as its count says, whatever its array
pub few_ring : {A : Type 0} (cap : ℕ) (l : List A) (h n : ℕ) → length (ring cap l h n) ≤ min n cap
unfolding ring
few_ring cap l h n = omega (arith, length-take (min n cap) (drop (h % cap) (l ++ l)))

-- no list of a state's pending entries is longer than their ring
pub few_pending : (s : State) → length (queue_of s).pending ≤ min s.core.rings.pending.len pending_size
unfolding queue_of
few_pending s = few_ring pending_size (slots_of s) s.core.rings.pending.head s.core.rings.pending.len

pub all_pending : (s : State) → take pending_size (queue_of s).pending ≡ (queue_of s).pending
all_pending s = take_all pending_size (queue_of s).pending (omega (arith, few_pending s))

-- the loop that lists l in an array: its elements up to i stand there
pub record Listing {A : Type 0} (cap n : ℕ) (l all : List A) (i : ℕ) : Type 0 where
  pub len : length all ≡ cap
  pub low : i ≤ n
  pub same : take i all ≡ take i l

module _ {A : Type 0} (cap n : ℕ) (l all : List A) (i : ℕ) (k : Listing cap n l all i) where
  pub listing_step : (x : A) → n ≤ cap → n ≤ length l → i < n → get_or l i x ≡ x → Listing cap n l (set all i x) (i + 1)
  listing_step x fits long b there =
      record {
        len = simp length-set k.len;
        low = omega arith;
        same = take_copied l all i x (omega arith) (omega (arith, k.len)) there k.same;
      }

  -- all are listed
  pub listing_all : n ≤ i → length l ≤ n → take n all ≡ l
  listing_all b few =
      let e : n ≡ i = omega (arith, k.low) in
      ap (λ (j : ℕ). take j all) e ∙ k.same ∙ take_all i l (omega arith)
