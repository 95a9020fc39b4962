-- `wire::varint::varint_len`: each turn takes one byte off what is left, and counts it.
use Prim.Native.Nat.{◌+◌, ◌≤◌}
use mathlib.Core.Path.{◌≡◌}
use lib.ListN.{length}
use Rattle.wire.specs.Proto.{varint}
use Rattle.wire.proofs.varint.varint_len.Given as goal

abbrev pub invariant-loop-rest : goal.invariant-loop-rest
invariant-loop-rest l = (l.n + length (varint l.rest) ≡ 1 + length (varint l.v)) × (l.n + l.rest ≤ l.v + 1)

abbrev pub decreases-loop-rest : goal.decreases-loop-rest
decreases-loop-rest l = l.rest
