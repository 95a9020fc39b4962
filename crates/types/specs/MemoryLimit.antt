-- Document 01, memory_limit.rs.
use Rattle.std.specs.Prelude.{ℕ, ◌-◌, ◌^◌, Bool, leb}

-- a reservation is at most 2^40 - 1 bytes
abbrev pub reservable : ℕ → Bool
reservable bytes = leb bytes (2 ^ 40 - 1)
