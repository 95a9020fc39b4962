-- Numbers of 64 bits as document 01 adds them, counts them up and reads them as signed ones.
use Rattle.std.specs.Prelude.{ℕ, zero, suc, ◌+◌, ◌-◌, ◌^◌, ◌%◌, min, ltb, ℤ, pos, negsuc}
use Rattle.laws.specs.Choice.{pick}

-- all sums of messages and bytes stop at 2^64 - 1 (receipts, errors, snapshot, replay)
abbrev pub add_sat : ℕ → ℕ → ℕ
add_sat x y = min (x + y) (2 ^ 64 - 1)

-- ids go up by one and pass from 2^64 - 1 to 0 (ids and clocks)
abbrev pub next_id : ℕ → ℕ
next_id x = (x + 1) % 2 ^ 64

-- a number of 64 bits, read as a signed one: from 2^63 on it stands for itself less 2^64
abbrev pub signed : ℕ → ℤ
signed x = pick (ltb x (2 ^ 63)) (pos x) (negsuc (2 ^ 64 - 1 - x))

-- the bits of a signed number, as a number of 64 bits
abbrev pub bits : ℤ → ℕ
bits (pos n) = n
bits (negsuc n) = 2 ^ 64 - 1 - n

-- a signed number less 1, stopping at -2^63
abbrev pub less_one : ℤ → ℤ
less_one (pos zero) = negsuc 0
less_one (pos (suc n)) = pos n
less_one (negsuc n) = negsuc (min (n + 1) (2 ^ 63 - 1))
