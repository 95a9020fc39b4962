-- A quotient rounded up: as the definition of the chunk count has it, and as `div_ceil` does. Assumes nothing.
use Rattle.std.proofs.Common.{◌≡◌, ℕ, ◌+◌, ◌-◌, ◌/◌, ◌%◌, ◌<◌, min, arith}
use Rattle.std.proofs.Math.Nat.{div-eq_of_lt-le, add-mul, one-mul}
use Rattle.std.proofs.lemmas.Grind.{div_ceil_times}

pub rounded_up : (a b : ℕ) → 0 < b → (a + (b - 1)) / b ≡ a / b + min 1 (a % b)
rounded_up a b h =
    let q : ℕ = a / b + min 1 (a % b) in
    let t = div_ceil_times a b h in
    div-eq_of_lt-le b (omega (arith, t.1)) (omega (arith, t.0, add-mul q 1 b, one-mul b))
