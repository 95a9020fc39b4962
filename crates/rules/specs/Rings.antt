-- Places in a ring, and the ring with a record more.
use Rattle.std.specs.Prelude.{ℕ, ◌+◌, ◌-◌, min, ltb, eqb, Option, Some, None}
use Rattle.laws.specs.Choice.{pick}
use Rattle.laws.specs.Ring.{slot}
use Rattle.rules.specs.declared.rings.Ring.{Ring}

-- the slot so many places on from the head; a ring of no slots has none, and 0 stands for it
abbrev pub slot_of : ℕ → ℕ → ℕ → ℕ
slot_of n head i = pick (eqb n 0) 0 (slot n head i)

-- the place behind the last record; a full ring has none
abbrev pub place_behind : (n : ℕ) → Ring n → Option ℕ
place_behind n r = pick (ltb r.len n) (Some (slot n r.head r.len)) None

-- with a record there; a full ring stays
abbrev pub longer_behind : (n : ℕ) → Ring n → Ring n
longer_behind n r = record { head = r.head; len = pick (ltb r.len n) (r.len + 1) r.len }

-- the place before the first record; a full ring has none
abbrev pub place_before : (n : ℕ) → Ring n → Option ℕ
place_before n r = pick (ltb r.len n) (Some (slot n r.head (n - 1))) None

-- with a record there; a full ring stays
abbrev pub longer_before : (n : ℕ) → Ring n → Ring n
longer_before n r =
    record { head = pick (ltb r.len n) (slot n r.head (n - 1)) r.head; len = pick (ltb r.len n) (r.len + 1) r.len }

-- with the first records gone, so many or all
abbrev pub without_front : (n : ℕ) → ℕ → Ring n → Ring n
without_front n k r =
    let len = min r.len n in
    record { head = slot_of n r.head (min k len); len = len - min k len }

-- with the last record gone
abbrev pub without_last : (n : ℕ) → Ring n → Ring n
without_last n r = record { head = r.head; len = min r.len n - 1 }
