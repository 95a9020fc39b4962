-- What is done to lists of any elements.
use Rattle.std.specs.Prelude.{ℕ, ◌+◌, Bool, List, [], ◌∷◌, ◌++◌, ltb, length, take, drop, set, None, Option, Some}
use Rattle.laws.specs.Choice.{pick}

-- the list without what stands at p
abbrev pub without : {A : Type 0} → List A → ℕ → List A
without l p = take p l ++ drop (p + 1) l

-- the place of the first element that passes, counted from i
abbrev pub first_at : {A : Type 0} → (A → Bool) → ℕ → List A → Option ℕ
first_at p i [] = None
first_at p i (x ∷ l) = pick (p x) (Some i) (first_at p (i + 1) l)

-- x at the end of a list that holds at most cap; a full one stays
abbrev pub onto : {A : Type 0} → ℕ → List A → A → List A
onto cap l x = pick (ltb (length l) cap) (l ++ x ∷ []) l

-- x at the front of a list that holds at most cap; a full one stays
abbrev pub front : {A : Type 0} → ℕ → A → List A → List A
front cap x l = pick (ltb (length l) cap) (x ∷ l) l

-- several at the front, in order, the last of them first
abbrev pub front_all : {A : Type 0} → ℕ → List A → List A → List A
front_all cap [] l = l
front_all cap (x ∷ xs) l = front cap x (front_all cap xs l)

-- a store at a place, if there is one
abbrev pub set_at : {A : Type 0} → Option ℕ → List A → A → List A
set_at None l x = l
set_at (Some i) l x = set l i x

-- those that pass, in order
abbrev pub keeping : {A : Type 0} → (A → Bool) → List A → List A
keeping p [] = []
keeping p (x ∷ l) = pick (p x) (x ∷ keeping p l) (keeping p l)
