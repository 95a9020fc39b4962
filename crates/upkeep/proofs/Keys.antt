-- Laws of ids zipped with marks: lengths, elements, and clearing as a change of each element. Assumes nothing.
use mathlib.Core.Path.{◌≡◌, refl, ap, sym, ◌∙◌}
use mathlib.Core.Bool.{Bool, true, false, not}
use mathlib.Core.List.{List, [], ◌∷◌, ◌++◌}
use Prim.Native.Nat.{ℕ, zero, suc, ◌+◌, ◌<◌, ◌≤◌}
use native.Mathlib.Omega.{arith}
use lib.Dec.{eqb}
use lib.ListN.{length, get_or, take, drop, set, drop_of_length-le}
use lib.Seq.{drop-cons}
use native.Mathlib.Numerals.{add-one}
use Rattle.std.proofs.Common.{subst}
use Rattle.std.proofs.lemmas.List.{set-get_or, take-append-drop}
use Rattle.types.specs.declared.types.SequenceId.{SequenceId}
use Rattle.laws.specs.Choice.{pick}
use Rattle.laws.proofs.Lists.{stored}
use Rattle.upkeep.specs.Pending.{keys, cleared, cleared_all}

-- what stands for an id where a list has no_id
abbrev pub no_id : SequenceId
no_id = record { 0 = 0 }

pub length_keys : (is : List SequenceId) (ms : List ℕ) → length is ≡ length ms → length (keys is ms) ≡ length is
length_keys [] ms e = refl
length_keys (i ∷ is) [] e = absurd (omega arith)
length_keys (i ∷ is) (m ∷ ms) e = ap suc (length_keys is ms (omega arith))

pub keys_at : (is : List SequenceId) (ms : List ℕ) (k : ℕ) → k < length is → length is ≡ length ms
    → get_or (keys is ms) k (0, true) ≡ ((get_or is k no_id).0, not (eqb (get_or ms k 0) 0))
keys_at [] ms k b e = absurd (omega arith)
keys_at (i ∷ is) [] k b e = absurd (omega arith)
keys_at (i ∷ is) (m ∷ ms) zero b e = refl
keys_at (i ∷ is) (m ∷ ms) (suc k) b e = keys_at is ms k (omega arith) (omega arith)

pub length_cleared : (id : ℕ) (is : List SequenceId) (ms : List ℕ) → length (cleared_all id is ms) ≡ length ms
length_cleared id [] ms = refl
length_cleared id (i ∷ is) [] = refl
length_cleared id (i ∷ is) (m ∷ ms) = ap suc (length_cleared id is ms)

-- the loop that clears: the marks up to i are done, and the rest is to come
abbrev pub Clearing : ℕ → List SequenceId → List ℕ → List ℕ → ℕ → Type 0
Clearing id is ms₀ ms i = take i ms ++ cleared_all id (drop i is) (drop i ms) ≡ cleared_all id is ms₀

module _ (id : ℕ) (is : List SequenceId) (ms₀ ms : List ℕ) (i : ℕ) (b : i < length is) (s : Clearing id is ms₀ ms i) where
  e : ℕ
  e = (get_or is i no_id).0

  m : ℕ
  m = get_or ms i 0

  step : i < length ms → Clearing id is ms₀ (set ms i (cleared id e m)) (i + 1)
  unfolding e m
  step h =
      let x : ℕ = cleared id ((get_or is i no_id).0) (get_or ms i 0) in
      stored ms i (i + 1) x (cleared_all id (drop (i + 1) is)) h (omega arith)
      ∙ ap (λ (k : ℕ). take i ms ++ x ∷ cleared_all id (drop k is) (drop k ms)) (add-one i)
      ∙ sym (λ j. take i ms ++ cleared_all id (drop-cons is i no_id b j) (drop-cons ms i 0 h j))
      ∙ s

  -- a mark that is cleared, and one that stays
  pub clear_hit : i < length ms → eqb ((get_or is i no_id).0) id ≡ true → Clearing id is ms₀ (set ms i 0) (i + 1)
  unfolding e m
  clear_hit h q = subst (λ (t : Bool). Clearing id is ms₀ (set ms i (pick t 0 (get_or ms i 0))) (i + 1)) q (step h)

  pub clear_miss : i < length ms → eqb ((get_or is i no_id).0) id ≡ false → Clearing id is ms₀ ms (i + 1)
  unfolding e m
  clear_miss h q =
      subst (λ (l : List ℕ). Clearing id is ms₀ l (i + 1)) (set-get_or ms i 0)
      (subst (λ (t : Bool). Clearing id is ms₀ (set ms i (pick t 0 (get_or ms i 0))) (i + 1)) q (step h))

pub cleared_end : (id : ℕ) (is : List SequenceId) (ms₀ ms : List ℕ) (i : ℕ) → length is ≤ i → Clearing id is ms₀ ms i → ms ≡ cleared_all id is ms₀
cleared_end id is ms₀ ms i b s =
    sym (ap (λ (r : List SequenceId). take i ms ++ cleared_all id r (drop i ms)) (drop_of_length-le is b) ∙ take-append-drop i ms) ∙ s
