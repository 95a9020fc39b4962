-- `wire::uuid::put_uuid`: what is written and the text of the bytes that are left make the whole text.
use Rattle.std.proofs.Common.{drop}
use Rattle.wire.specs.Uuid.{text_from}
use Rattle.wire.proofs.Writes.{Going}
use Rattle.wire.proofs.uuid.put_uuid.Given as goal

abbrev pub invariant-loop-i : goal.invariant-loop-i
invariant-loop-i l = Going (text_from 0 l.uuid) (text_from l.i (drop l.i l.uuid)) l.initial.out l.out l.n
