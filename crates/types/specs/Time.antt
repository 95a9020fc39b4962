-- Document 01, time.rs.
use Rattle.std.specs.Prelude.{ℕ, ◌+◌, ◌^◌, ltb}
use Rattle.laws.specs.Choice.{pick}
use Rattle.laws.specs.Numbers.{add_sat}

-- base plus delta; if the sum passes 2^64 - 1, base plus 3,600,000; if even that passes, 2^64 - 1
abbrev pub deadline_with_clamp : ℕ → ℕ → ℕ
deadline_with_clamp base delta = pick (ltb (base + delta) (2 ^ 64)) (base + delta) (add_sat base 3600000)
