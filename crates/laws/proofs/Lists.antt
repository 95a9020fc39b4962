-- The turns of loops over a list: each law says that a turn leaves alone what is still to come of it. Assumes nothing.
use Rattle.std.specs.Prelude.{Some, None}
use mathlib.Core.Path.{◌≡◌, refl, ap, sym, ◌∙◌}
use mathlib.Core.List.{List, [], ◌∷◌, ◌++◌, map, append-nil}
use mathlib.Core.Bool.{Bool, true, false}
use Prim.Native.Nat.{ℕ, zero, suc, ◌+◌, ◌≤◌, ◌<◌}
use native.Mathlib.Numerals.{add-one}
use native.Mathlib.Omega.{arith}
use lib.ListN.{length, take, drop, get_or, set, drop_of_length-le}
use lib.Seq.{drop-cons, take-suc, take-suc-set, take-set-le, drop-set-lt, get_or-set_same, append_snoc, take_all, lt-length-set}
use Rattle.laws.specs.Choice.{pick}
use Rattle.laws.specs.Lists.{without, first_at}

module _ {A : Type 0} where
  -- the list up to i and x, and then the rest from k on: what a store at i leaves
  pub stored : (l : List A) (i k : ℕ) (x : A) (f : List A → List A) → i < length l → i < k
      → take (i + 1) (set l i x) ++ f (drop k (set l i x)) ≡ take i l ++ x ∷ f (drop k l)
  stored l i k x f h b =
      ap (λ (j : ℕ). take j (set l i x) ++ f (drop k (set l i x))) (add-one i)
      ∙ ap (λ (r : List A). r ++ f (drop k (set l i x))) (take-suc-set l i x h)
      ∙ ap (λ (r : List A). (take i l ++ x ∷ []) ++ f r) (drop-set-lt k l i x b)
      ∙ append_snoc (take i l) x (f (drop k l))

  -- an element is taken out: those behind it move up one by one
  pub without_step : (l : List A) (i : ℕ) (d : A) → i + 1 < length l → without (set l i (get_or l (i + 1) d)) (i + 1) ≡ without l i
  without_step l i d h =
      let x : A = get_or l (i + 1) d in
      stored l i (i + 1 + 1) x (λ r. r) (omega arith) (omega arith)
      ∙ ap (λ (k : ℕ). take i l ++ x ∷ drop k l) (add-one (i + 1))
      ∙ ap (λ (r : List A). take i l ++ r) (sym (drop-cons l (i + 1) d h))

  -- or those before it move back one by one
  pub without_back : (l : List A) (i : ℕ) (d : A) → i + 1 < length l → without (set l (i + 1) (get_or l i d)) i ≡ without l (i + 1)
  without_back l i d h =
      let x : A = get_or l i d in
      let r : List A = set l (i + 1) x in
      ap (λ (f : List A). f ++ drop (i + 1) r) (take-set-le i l (i + 1) x (omega arith))
      ∙ ap (λ (b : List A). take i l ++ b)
      (drop-cons r (i + 1) d (lt-length-set l (i + 1) x h)
      ∙ (λ j. get_or-set_same l (i + 1) x d h j ∷ drop (sym (add-one (i + 1)) j) r)
      ∙ ap (λ (b : List A). x ∷ b) (drop-set-lt (i + 1 + 1) l (i + 1) x (omega arith)))
      ∙ sym (append_snoc (take i l) x (drop (i + 1 + 1) l))
      ∙ ap (λ (f : List A). f ++ drop (i + 1 + 1) l) (sym (ap (λ (k : ℕ). take k l) (add-one i) ∙ take-suc l i d (omega arith)))

  pub without_last : (l : List A) (i : ℕ) → length l ≤ i + 1 → without l i ≡ take i l
  without_last l i h = ap (λ (r : List A). take i l ++ r) (drop_of_length-le l h) ∙ append-nil (take i l)

  -- each element is changed
  abbrev pub rest : (A → A) → List A → ℕ → List A
  rest f l i = take i l ++ map f (drop i l)

  pub rest_step : (f : A → A) (l : List A) (i : ℕ) (d : A) → i < length l → rest f (set l i (f (get_or l i d))) (i + 1) ≡ rest f l i
  rest_step f l i d h =
      let x : A = f (get_or l i d) in
      stored l i (i + 1) x (map f) h (omega arith)
      ∙ ap (λ (k : ℕ). take i l ++ x ∷ map f (drop k l)) (add-one i)
      ∙ ap (λ (r : List A). take i l ++ map f r) (sym (drop-cons l i d h))

  pub rest_end : (f : A → A) (l : List A) (i : ℕ) → length l ≤ i → rest f l i ≡ l
  rest_end f l i h = ap (λ (r : List A). take i l ++ map f r) (drop_of_length-le l h) ∙ append-nil (take i l) ∙ take_all i l h

  -- the first element that passes
  next_of : (p : A → Bool) (l : List A) (i : ℕ) (d : A) (b : Bool) → i < length l → p (get_or l i d) ≡ b
      → first_at p i (drop i l) ≡ pick b (Some i) (first_at p (i + 1) (drop (suc i) l))
  next_of p l i d b h t = ap (first_at p i) (drop-cons l i d h) ∙ ap (λ (c : Bool). pick c (Some i) (first_at p (i + 1) (drop (suc i) l))) t

  pub first_hit : (p : A → Bool) (l : List A) (i : ℕ) (d : A) → i < length l → p (get_or l i d) ≡ true → first_at p i (drop i l) ≡ Some i
  first_hit p l i d h t = next_of p l i d true h t

  pub first_miss : (p : A → Bool) (l : List A) (i : ℕ) (d : A) → i < length l → p (get_or l i d) ≡ false
      → first_at p (i + 1) (drop (i + 1) l) ≡ first_at p i (drop i l)
  first_miss p l i d h t = ap (λ (k : ℕ). first_at p (i + 1) (drop k l)) (add-one i) ∙ sym (next_of p l i d false h t)

  pub first_none : (p : A → Bool) (l : List A) (i : ℕ) → length l ≤ i → first_at p i (drop i l) ≡ None
  first_none p l i h = ap (first_at p i) (drop_of_length-le l h)

  -- what was found lies in the list
  pub first_below : (p : A → Bool) (l : List A) (i k : ℕ) → first_at p i l ≡ Some k → k < i + length l
  first_below p [] i k e = absurd (none_some e)
    where
      none_some : None ≡ Some k → ⊥
      none_some q = let z : ◌≡◌ {A = ℕ} 0 1 = cc in omega arith
  first_below p (x ∷ l) i k e = go (p x) e (first_below p l (i + 1) k)
    where
      go : (b : Bool) → pick b (Some i) (first_at p (i + 1) l) ≡ Some k → (first_at p (i + 1) l ≡ Some k → k < i + 1 + length l) → k < i + length (x ∷ l)
      go true q later = let same : i ≡ k = cc in omega arith
      go false q later = omega (arith, later q)

module _ {A B : Type 0} (f : A → B) where
  pub map_take : (n : ℕ) (l : List A) → map f (take n l) ≡ take n (map f l)
  map_take zero l = refl
  map_take (suc n) [] = refl
  map_take (suc n) (x ∷ l) = ap (λ (r : List B). f x ∷ r) (map_take n l)

  pub map_drop : (n : ℕ) (l : List A) → map f (drop n l) ≡ drop n (map f l)
  map_drop zero l = refl
  map_drop (suc n) [] = refl
  map_drop (suc n) (x ∷ l) = map_drop n l

  pub map_append : (l m : List A) → map f (l ++ m) ≡ map f l ++ map f m
  map_append [] m = refl
  map_append (x ∷ l) m = ap (λ (r : List B). f x ∷ r) (map_append l m)
