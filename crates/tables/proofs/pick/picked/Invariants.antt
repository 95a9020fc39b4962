-- `pick::picked`: those gathered and what the rest has to give are those of all entries.
use Rattle.laws.proofs.Gathers.{Keeping}
use Rattle.queue.specs.Sizes.{pending_size}
use Rattle.rows.specs.Entry.{decode_entry}
use Rattle.tables.proofs.pick.picked.Given as goal

abbrev pub invariant-loop-i : goal.invariant-loop-i
invariant-loop-i g l = Keeping pending_size (λ r. g.C.Choice.chosen l.choice (decode_entry r)) l.entries l.n l.items l.len l.i
