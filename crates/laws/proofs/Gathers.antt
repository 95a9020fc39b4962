-- Loops that gather a list in an array, over the elements: what is gathered up to i, and the rest to come. Assumes nothing.
use mathlib.Core.Path.{◌≡◌, refl, ap, sym, ◌∙◌}
use mathlib.Core.List.{List, [], ◌∷◌, ◌++◌, append-nil}
use mathlib.Core.Bool.{Bool, true, false}
use Prim.Native.Nat.{ℕ, suc, ◌+◌, ◌≤◌, ◌<◌}
use native.Mathlib.Numerals.{add-one}
use native.Mathlib.Omega.{arith}
use lib.ListN.{length, take, drop, get_or, set, length-set, drop_of_length-le}
use lib.Seq.{drop-cons, take-suc-set, append_snoc, get_or-take, length-take-le}
use Rattle.laws.specs.Choice.{pick}
use Rattle.laws.specs.Lists.{keeping}

module _ {A : Type 0} where
  -- the rest of the first n from i on, with the next one apart
  pub rest_next : (l : List A) (n i : ℕ) (d : A) → n ≤ length l → i < n → drop i (take n l) ≡ get_or l i d ∷ drop (i + 1) (take n l)
  rest_next l n i d b h =
      let e : length (take n l) ≡ n = length-take-le n l b in
      drop-cons (take n l) i d (omega arith)
      ∙ ap (λ (x : A). x ∷ drop (suc i) (take n l)) (get_or-take n l i d h)
      ∙ ap (λ (k : ℕ). get_or l i d ∷ drop k (take n l)) (sym (add-one i))

  pub rest_none : (l : List A) (n i : ℕ) → n ≤ length l → n ≤ i → drop i (take n l) ≡ []
  rest_none l n i b h =
      let e : length (take n l) ≡ n = length-take-le n l b in
      let f : length (take n l) ≤ i = omega arith in
      drop_of_length-le (take n l) f

  -- one more at the end of what is gathered
  pub gathered : (a : List A) (k : ℕ) (x : A) (r : List A) → k < length a → take (k + 1) (set a k x) ++ r ≡ take k a ++ x ∷ r
  gathered a k x r h =
      ap (λ (j : ℕ). take j (set a k x) ++ r) (add-one k)
      ∙ ap (λ (l : List A). l ++ r) (take-suc-set a k x h)
      ∙ append_snoc (take k a) x r

  -- those of the first n that pass: k of them are gathered from the first i
  pub record Keeping (cap : ℕ) (p : A → Bool) (l : List A) (n : ℕ) (a : List A) (k i : ℕ) : Type 0 where
    pub len : length a ≡ cap
    pub low : k ≤ i
    pub high : i ≤ n
    pub left : take k a ++ keeping p (drop i (take n l)) ≡ keeping p (take n l)

  module _ (cap : ℕ) (p : A → Bool) (l : List A) (n : ℕ) (b : n ≤ length l) (fits : n ≤ cap) where
    pub keep_start : (a : List A) → length a ≡ cap → Keeping cap p l n a 0 0
    keep_start a e = record { len = e; low = omega arith; high = omega arith; left = refl }

    next_of : (a : List A) (k i : ℕ) (d : A) (t : Bool) → Keeping cap p l n a k i → i < n → p (get_or l i d) ≡ t
        → take k a ++ pick t (get_or l i d ∷ keeping p (drop (i + 1) (take n l))) (keeping p (drop (i + 1) (take n l))) ≡ keeping p (take n l)
    next_of a k i d t s h e =
        let x : A = get_or l i d in
        let r : List A = keeping p (drop (i + 1) (take n l)) in
        sym
        (ap (λ (m : List A). take k a ++ keeping p m) (rest_next l n i d b h) ∙ ap (λ (c : Bool). take k a ++ pick c (x ∷ r) r) e)
        ∙ s.left

    pub keep_pass : (a : List A) (k i : ℕ) (d : A) → Keeping cap p l n a k i → i < n → p (get_or l i d) ≡ true
        → Keeping cap p l n (set a k (get_or l i d)) (k + 1) (i + 1)
    keep_pass a k i d s h e =
        let lo : k ≤ i = s.low in
        let al : length a ≡ cap = s.len in
        record {
          len = simp length-set s.len;
          low = omega arith;
          high = omega arith;
          left = gathered a k (get_or l i d) (keeping p (drop (i + 1) (take n l))) (omega arith) ∙ next_of a k i d true s h e;
        }

    pub keep_miss : (a : List A) (k i : ℕ) (d : A) → Keeping cap p l n a k i → i < n → p (get_or l i d) ≡ false
        → Keeping cap p l n a k (i + 1)
    keep_miss a k i d s h e =
        let lo : k ≤ i = s.low in
        record { len = s.len; low = omega arith; high = omega arith; left = next_of a k i d false s h e }

    pub keep_end : (a : List A) (k i : ℕ) → Keeping cap p l n a k i → n ≤ i → take k a ≡ keeping p (take n l)
    keep_end a k i s h =
        sym (ap (λ (m : List A). take k a ++ keeping p m) (rest_none l n i b h) ∙ append-nil (take k a)) ∙ s.left
