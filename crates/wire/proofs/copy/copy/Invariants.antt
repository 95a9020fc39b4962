-- `wire::copy::copy`: up to `i` the buffer holds what the source does, and from there on what it held before.
use Prim.Native.Nat.{◌≤◌}
use mathlib.Core.Path.{◌≡◌}
use lib.ListN.{length, take, drop}
use Rattle.wire.proofs.copy.copy.Given as goal

abbrev pub invariant-loop-i : goal.invariant-loop-i
invariant-loop-i l = (l.i ≤ length l.src) × (take l.i l.out ≡ take l.i l.src) × (drop l.i l.out ≡ drop l.i l.initial.out) × (length l.out ≡ length l.initial.out)
