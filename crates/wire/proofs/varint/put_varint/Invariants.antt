-- `wire::varint::put_varint`: what is written and the varint of what is left make the varint of `v`.
use Rattle.wire.specs.Proto.{varint}
use Rattle.wire.proofs.Writes.{Going}
use Rattle.wire.proofs.varint.put_varint.Given as goal

abbrev pub invariant-loop-rest : goal.invariant-loop-rest
invariant-loop-rest l = Going (varint l.v) (varint l.rest) l.initial.out l.out l.n

abbrev pub decreases-loop-rest : goal.decreases-loop-rest
decreases-loop-rest l = l.rest
