-- An entry more in each turn.
use Rattle.script.specs.Output.{Writes}
use Rattle.host.proofs.dump.put_dump.Given as goal

abbrev pub invariant-loop-i : goal.invariant-loop-i
invariant-loop-i l = Writes l.initial.out l.out
