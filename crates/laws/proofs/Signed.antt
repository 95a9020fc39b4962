-- The signed reading of a number of 64 bits. Assumes nothing.
use mathlib.Core.Path.{◌≡◌, ap, sym, ◌∙◌}
use Prim.Native.Nat.{ℕ, ◌-◌, ◌^◌, ◌≤◌, ◌<◌}
use native.Mathlib.Omega.{arith}
use native.Mathlib.Decide.{dec_lt}
use borrow.Author.Tests.{lt-ltb, le-ltb}
use lib.IntN.{pos, negsuc}
use Rattle.laws.specs.Numbers.{signed, bits}

pub signed_low : (x : ℕ) → x < 2 ^ 63 → signed x ≡ pos x
signed_low x h = rw (lt-ltb x (2 ^ 63) h)

pub signed_high : (x : ℕ) → 2 ^ 63 ≤ x → signed x ≡ negsuc (2 ^ 64 - 1 - x)
signed_high x h = rw (le-ltb x (2 ^ 63) h)

-- reading as signed keeps the bits: two numbers with one reading are one number
pub bits_signed : (x : ℕ) → x < 2 ^ 64 → bits (signed x) ≡ x
bits_signed x h = go (dec_lt x (2 ^ 63))
  where
    go : Dec (x < 2 ^ 63) → bits (signed x) ≡ x
    go (yes p) = ap bits (signed_low x p)
    go (no p) = ap bits (signed_high x (omega arith)) ∙ omega arith

pub signed_injective : (x y : ℕ) → x < 2 ^ 64 → y < 2 ^ 64 → signed x ≡ signed y → x ≡ y
signed_injective x y hx hy e = sym (bits_signed x hx) ∙ ap bits e ∙ bits_signed y hy
