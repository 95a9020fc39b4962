-- The ids and marks of the pending entries, and searches in them.
use Rattle.std.specs.Prelude.{ℕ, ◌+◌, Bool, true, false, not, ◌&&◌, ◌||◌, List, [], ◌∷◌, eqb, None, Option, Some}
use Rattle.laws.specs.Choice.{pick}
use Rattle.laws.specs.Lists.{first_at}
use Rattle.laws.specs.Ring.{ring}
use Rattle.queue.specs.Sizes.{pending_size}
use Rattle.types.specs.declared.types.SequenceId.{SequenceId}
use Rattle.rules.specs.declared.rings.Ring.{Ring}

-- an id, and whether its entry keeps it in the index
abbrev pub Key : Type 0
Key = ℕ × Bool

abbrev pub keys : List SequenceId → List ℕ → List Key
keys [] ms = []
keys (i ∷ is) [] = []
keys (i ∷ is) (m ∷ ms) = (i.0, not (eqb m 0)) ∷ keys is ms

-- those that a ring of entries holds
abbrev pub searched : List SequenceId → List ℕ → Ring pending_size → List Key
searched is ms r = ring pending_size (keys is ms) r.head r.len

-- it bears the id, and is marked unless any will do
abbrev pub wanted : ℕ → Bool → Key → Bool
wanted id any k = eqb k.0 id && (any || k.1)

abbrev pub place_of : (Key → Bool) → List Key → Option ℕ
place_of p l = first_at p 0 l

abbrev pub first_if : Option ℕ → Option ℕ → Option ℕ
first_if (Some i) first = first
first_if None first = None

-- the first key that bears the id, if one that does is marked
abbrev pub located : ℕ → List Key → Option ℕ
located id l = first_if (place_of (wanted id false) l) (place_of (wanted id true) l)

-- how many of the ids are this one
abbrev pub bearing : ℕ → List SequenceId → ℕ
bearing id [] = 0
bearing id (i ∷ is) = pick (eqb i.0 id) 1 0 + bearing id is

abbrev pub cleared : ℕ → ℕ → ℕ → ℕ
cleared id entry mark = pick (eqb entry id) 0 mark

abbrev pub cleared_all : ℕ → List SequenceId → List ℕ → List ℕ
cleared_all id [] ms = ms
cleared_all id (i ∷ is) [] = []
cleared_all id (i ∷ is) (m ∷ ms) = cleared id i.0 m ∷ cleared_all id is ms
