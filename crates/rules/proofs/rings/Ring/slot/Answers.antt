-- `rules::rings::Ring::slot`: on from the head, or around.
use Rattle.std.proofs.Common.{arith}
use Rattle.rules.proofs.Slots.{slot_on, slot_back}
use Rattle.rules.proofs.rings.Ring.slot.Goals as goal

pub returns-then-on-rest : goal.returns-then-on-rest
returns-then-on-rest g c =
    omega (arith, slot_on g.row.N c.args.self.head c.args.i (omega arith) (omega (arith, c.if-on-rest.true)))

pub returns-else-on-rest : goal.returns-else-on-rest
returns-else-on-rest g c = omega (arith, slot_back g.row.N c.args.self.head c.args.i (omega arith) (omega arith))
