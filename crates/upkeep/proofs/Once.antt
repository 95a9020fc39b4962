-- An id that at most one slot bears: the loop that counts them, and that no two places of the ring bear it. Assumes nothing.
use Rattle.std.specs.Prelude.{Some}
use Rattle.std.proofs.Common.{◌≡◌, ℕ, zero, suc, ◌+◌, ◌-◌, ◌≤◌, ◌<◌, Bool, true, false, eqb, List, [], ◌∷◌, length, get_or, drop, sym, refl, subst, arith}
use Rattle.laws.specs.Choice.{pick}
use Rattle.laws.specs.Lists.{first_at}
use Rattle.laws.proofs.Choice.{differ}
use Rattle.types.specs.declared.types.SequenceId.{SequenceId}
use Rattle.upkeep.specs.Pending.{bearing}
use Rattle.upkeep.proofs.Keys.{no_id}

pub record Counting (id : ℕ) (is : List SequenceId) (count i : ℕ) : Type 0 where
  pub low : count ≤ i
  pub high : i ≤ length is
  pub left : count + bearing id (drop i is) ≡ bearing id is

one : (id : ℕ) (is : List SequenceId) (b : ℕ) → b < length is → eqb ((get_or is b no_id).0) id ≡ true → 1 ≤ bearing id is
one id [] b h e = absurd (omega arith)
one id (i ∷ is) zero h e = rw e (omega arith)
one id (i ∷ is) (suc b) h e = omega (arith, one id is b (omega arith) e)

pub two : (id : ℕ) (is : List SequenceId) (a b : ℕ) → a < b → b < length is → eqb ((get_or is a no_id).0) id ≡ true → eqb ((get_or is b no_id).0) id ≡ true
    → 2 ≤ bearing id is
two id [] a b l h p q = absurd (omega arith)
two id (i ∷ is) a zero l h p q = absurd (omega arith)
two id (i ∷ is) zero (suc b) l h p q = rw p (omega (arith, one id is b (omega arith) q))
two id (i ∷ is) (suc a) (suc b) l h p q = omega (arith, two id is a b (omega arith) (omega arith) p q)

-- where a search stops the test holds
pub first_holds : {A : Type 0} (p : A → Bool) (d : A) (l : List A) (i k : ℕ) → first_at p i l ≡ Some k → (i ≤ k) × (p (get_or l (k - i) d) ≡ true)
first_holds p d [] i k e = differ (cc)
first_holds p d (x ∷ l) i k e = go (p x) refl e (first_holds p d l (i + 1) k)
  where
    go : (b : Bool) → p x ≡ b → pick b (Some i) (first_at p (i + 1) l) ≡ Some k
        → (first_at p (i + 1) l ≡ Some k → (i + 1 ≤ k) × (p (get_or l (k - (i + 1)) d) ≡ true))
        → (i ≤ k) × (p (get_or (x ∷ l) (k - i) d) ≡ true)
    go true s q rest =
        let same : i ≡ k = cc in
        let z : k - i ≡ 0 = omega arith in
        (omega arith, subst (λ (n : ℕ). p (get_or (x ∷ l) n d) ≡ true) (sym z) s)
    go false s q rest =
        let later = rest q in
        let n : k - i ≡ suc (k - (i + 1)) = omega (arith, later.0) in
        (omega (arith, later.0), subst (λ (j : ℕ). p (get_or (x ∷ l) j d) ≡ true) (sym n) later.1)
