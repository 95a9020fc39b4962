-- Settling as document 01 tells it, entry by entry, is settling at the place that the search finds. Assumes nothing.
use Rattle.std.specs.Prelude.{None, Option, ℕ, Some}
use Rattle.std.proofs.Common.{◌≡◌, ℕ, ◌+◌, Bool, true, false, ◌&&◌, ◌||◌, List, [], ◌∷◌, ◌++◌, map, get_or, take, drop, refl, ap, ◌∙◌, add-one}
use Rattle.laws.specs.Choice.{pick}
use Rattle.laws.specs.Lists.{first_at}
use Rattle.laws.specs.Lists as lists
use Rattle.types.specs.declared.entry.OpSend.{OpSend}
use Rattle.queue.specs.Settle.{bears, answerable, found, without_id}
use Rattle.upkeep.specs.Pending.{wanted, first_if, located}
use Rattle.producer.specs.Settle.{key_of}

-- one place on
abbrev more : Option ℕ → Option ℕ
more None = None
more (Some i) = Some (i + 1)

-- a search counted from one more
first_more : {A : Type 0} (p : A → Bool) (k : ℕ) (l : List A) → first_at p (k + 1) l ≡ more (first_at p k l)
first_more p k [] = refl
first_more p k (x ∷ l) = go (p x) (first_more p (k + 1) l)
  where
    go : (b : Bool) → first_at p (k + 1 + 1) l ≡ more (first_at p (k + 1) l)
        → pick b (Some (k + 1)) (first_at p (k + 1 + 1) l) ≡ more (pick b (Some k) (first_at p (k + 1) l))
    go true e = refl
    go false e = e

-- what the definitions say of the entry that a search finds
abbrev pub Place : ℕ → List OpSend → Option ℕ → Type 0
Place id l None = found id l ≡ None
Place id l (Some i) = ((x : OpSend) → found id l ≡ Some (get_or l i x)) × (without_id id l ≡ lists.without l i)

later : (id : ℕ) (op : OpSend) (l : List OpSend) (o : Option ℕ) → bears id op ≡ false → Place id l o → Place id (op ∷ l) (more o)
later id op l None e p = rw e p
later id op l (Some i) e p = (
  λ x. rw (e, add-one i) (p.0 x),
  rw (e, add-one (i + 1), add-one i)
      (ap (λ (r : List OpSend). op ∷ r) p.1 ∙ ap (λ (k : ℕ). op ∷ (take i l ++ drop k l)) (add-one i)),
)

pub place : (id : ℕ) (l : List OpSend) → Place id l (first_at (bears id) 0 l)
place id [] = refl
place id (op ∷ l) = go (bears id op) refl (place id l)
  where
    go : (b : Bool) → bears id op ≡ b → Place id l (first_at (bears id) 0 l) → Place id (op ∷ l) (pick b (Some 0) (first_at (bears id) 1 l))
    go true e p = (λ x. rw e, rw e)
    go false e p = rw (first_more (bears id) 0 l) (later id op l (first_at (bears id) 0 l) e p)

-- the search on ids and marks
and_true : (b : Bool) → (b && true) ≡ b
and_true true = refl
and_true false = refl

any_bears : (id k : ℕ) (l : List OpSend) → first_at (wanted id true) k (map key_of l) ≡ first_at (bears id) k l
any_bears id k [] = refl
any_bears id k (op ∷ l) = λ j. pick (and_true (bears id op) j) (Some k) (any_bears id (k + 1) l j)

abbrev is_found : Option ℕ → Bool
is_found None = false
is_found (Some i) = true

marked_answerable : (id k : ℕ) (l : List OpSend) → is_found (first_at (wanted id false) k (map key_of l)) ≡ answerable id l
marked_answerable id k [] = refl
marked_answerable id k (op ∷ l) = go (bears id op && op.answerable) (marked_answerable id (k + 1) l)
  where
    go : (b : Bool) → is_found (first_at (wanted id false) (k + 1) (map key_of l)) ≡ answerable id l
        → is_found (pick b (Some k) (first_at (wanted id false) (k + 1) (map key_of l))) ≡ (b || answerable id l)
    go true e = refl
    go false e = e

-- the place found, by the definitions' own tests
abbrev pub place_if : Bool → Option ℕ → Option ℕ
place_if true o = o
place_if false o = None

pub located_is : (id : ℕ) (l : List OpSend) → located id (map key_of l) ≡ place_if (answerable id l) (first_at (bears id) 0 l)
located_is id l =
    by (first_at (wanted id false) 0 (map key_of l)) (first_at (wanted id true) 0 (map key_of l))
    ∙ (λ j. place_if (marked_answerable id 0 l j) (any_bears id 0 l j))
  where
    by : (m o : Option ℕ) → first_if m o ≡ place_if (is_found m) o
    by None o = refl
    by (Some i) o = refl
