-- Saturating and wrapping sums of 64 bits. Assumes nothing.
use mathlib.Core.Path.{◌≡◌, refl}
use Prim.Native.Nat.{ℕ, ◌+◌, ◌-◌, ◌^◌, ◌≤◌, ◌<◌}
use native.Mathlib.Omega.{arith}
use Rattle.laws.specs.Numbers.{add_sat, next_id}

pub sat_fits : (x y : ℕ) → add_sat x y < 2 ^ 64
sat_fits x y = omega arith

pub sat_assoc : (x y z : ℕ) → add_sat (add_sat x y) z ≡ add_sat x (add_sat y z)
sat_assoc x y z = omega arith

pub sat_zero : (x : ℕ) → x < 2 ^ 64 → add_sat x 0 ≡ x
sat_zero x h = omega arith

pub sat_grows : (x y : ℕ) → x < 2 ^ 64 → x ≤ add_sat x y
sat_grows x y h = omega arith

pub next_adds : (x : ℕ) → x + 1 < 2 ^ 64 → next_id x ≡ x + 1
next_adds x h = omega arith

pub next_wraps : next_id (2 ^ 64 - 1) ≡ 0
next_wraps = refl

pub next_fits : (x : ℕ) → next_id x < 2 ^ 64
next_fits x = omega arith
