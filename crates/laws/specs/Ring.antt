-- A ring of `cap` slots. Its head and its length may be any numbers: the head is read as `head % cap` and the length as
-- `min len cap`, so that every value is a ring.
use Rattle.std.specs.Prelude.{ℕ, ◌+◌, ◌%◌, min, List, ◌++◌, take, drop}

-- the list that it holds
unfoldable pub ring : {A : Type 0} → ℕ → List A → ℕ → ℕ → List A
ring cap slots head len = take (min len cap) (drop (head % cap) (slots ++ slots))

-- the slot of the i-th element from the head
abbrev pub slot : ℕ → ℕ → ℕ → ℕ
slot cap head i = (head % cap + i) % cap
