-- `host::run::run`: an operation in each turn; the place in the script goes up.
use Rattle.std.proofs.Common.{◌-◌, ◌≤◌, length}
use Rattle.script.specs.Output.{Writes}
use Rattle.host.proofs.run.run.Given as goal

abbrev pub invariant-loop-op : goal.invariant-loop-op
invariant-loop-op g l = Writes l.initial.out l.out × (l.out.at ≤ length l.out.bytes.now)

abbrev pub decreases-loop-op : goal.decreases-loop-op
decreases-loop-op g l = length l.place.script.now - l.place.at
