-- `upkeep::pending::Index::find`: no key before the place passed the test, and the loop stops at the first that does.
use Rattle.laws.proofs.Loops.{Missed}
use Rattle.upkeep.specs.Pending.{keys, wanted}
use Rattle.upkeep.proofs.pending.Index.find.Given as goal
use Rattle.queue.specs.Sizes.{pending_size}

abbrev pub invariant-loop-i : goal.invariant-loop-i
invariant-loop-i l =
    Missed pending_size (wanted l.id.0 l.any) (keys l.self.ids.now l.self.marks.now) l.self.ring.head l.self.ring.len l.i
