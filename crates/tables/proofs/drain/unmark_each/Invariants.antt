-- `drain::unmark_each`: the ids before the one at hand are cleared.
use Rattle.tables.proofs.Turns.{Gone}
use Rattle.tables.proofs.drain.unmark_each.Given as goal

abbrev pub invariant-loop-op : goal.invariant-loop-op
invariant-loop-op l = Gone l.gone l.ids l.initial.marks l.marks l.op-index
