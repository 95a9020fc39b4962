-- `upkeep::pending::unmark`: the marks before the place are cleared, and the rest is to come.
use mathlib.Core.Path.{◌≡◌}
use lib.ListN.{length}
use Rattle.upkeep.proofs.Keys.{Clearing}
use Rattle.upkeep.proofs.pending.unmark.Given as goal
use Rattle.queue.specs.Sizes.{pending_size}

abbrev pub invariant-loop-i : goal.invariant-loop-i
invariant-loop-i l = (length l.marks ≡ pending_size) × Clearing l.id.0 l.ids l.initial.marks l.marks l.i
