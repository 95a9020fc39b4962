-- `pending::bearing`: those counted, and those of the rest, are all.
use Rattle.upkeep.proofs.Once.{Counting}
use Rattle.upkeep.proofs.pending.bearing.Given as goal

abbrev pub invariant-loop-entry : goal.invariant-loop-entry
invariant-loop-entry l = Counting l.id.0 l.ids l.count l.entry-index
