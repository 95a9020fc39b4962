-- Laws of the varint: one step at a time, whatever the steps left, and how many bytes there are.
use Prim.Native.Nat.{ℕ, zero, suc, ◌+◌, ◌/◌, ◌%◌, ◌^◌, ◌≤◌, ◌<◌}
use mathlib.Core.Path.{◌≡◌, refl}
use mathlib.Core.List.{[], ◌∷◌}
use native.Mathlib.Omega.{arith}
use Rattle.std.proofs.lemmas.Grind.{common_steps}
use native.Mathlib.Nat.{one-le-pow}
use lib.ListN.{length}
use lib.IntN.{negsuc}
use borrow.Author.Tests.{lt-ltb, le-ltb}
use Rattle.wire.specs.Proto.{varint_by, varint, extended}

by_small : (n v : ℕ) → v < 128 → varint_by n v ≡ v ∷ []
unfolding varint_by
by_small zero v h = refl
by_small (suc n) v h = rw (lt-ltb v 128 h, varint_by)

by_large : (n v : ℕ) → 128 ≤ v → varint_by (suc n) v ≡ (v % 128 + 128) ∷ varint_by n (v / 128)
unfolding varint_by
by_large n v h = rw (le-ltb v 128 h, varint_by)

enough : (n m v : ℕ) → v ≤ n → v ≤ m → varint_by n v ≡ varint_by m v
enough zero m v h k = grind (arith, by_small)
enough (suc n) zero v h k = grind (arith, by_small)
enough (suc n) (suc m) v h k = grind (arith, by_small, by_large, enough n m (v / 128))

pub small : (v : ℕ) → v < 128 → varint v ≡ v ∷ []
unfolding varint
small v h = by_small v v h

pub large : (v : ℕ) → 128 ≤ v → varint v ≡ (v % 128 + 128) ∷ varint (v / 128)
unfolding varint
large zero h = absurd (omega arith)
large (suc v) h = rw (by_large v (suc v) h, enough v (suc v / 128) (suc v / 128) (omega arith) (omega arith))

-- k + 1 bytes hold a number below 128 ^ (k + 1)
pub short : (k v : ℕ) → v < 128 ^ suc k → length (varint v) ≤ suc k
short zero v h = grind (arith, common_steps, small)
short (suc k) v h = grind (arith, common_steps, small, large, short k (v / 128))

pub at_most_ten : (v : ℕ) → v < 2 ^ 64 → length (varint v) ≤ 10
at_most_ten v h = short 9 v (omega arith)

pub one_or_more : (v : ℕ) → 1 ≤ length (varint v)
one_or_more v = grind (arith, common_steps, small, large)

-- and a number from 128 ^ k on takes more than k
pub long : (k v : ℕ) → 128 ^ k ≤ v → k < length (varint v)
long zero v h = one_or_more v
long (suc k) v h = grind (arith, common_steps, large, long k (v / 128), one-le-pow k 128)

-- an int32 that is negative takes ten bytes
pub negative_ten : (n : ℕ) → n < 2 ^ 31 → length (varint (extended (negsuc n))) ≡ 10
negative_ten n h = grind (arith, at_most_ten, long 9)

-- for a loop that takes one byte off what is left
pub ruleset byte_steps = (small, large, at_most_ten)
