-- An entry more in each turn.
use Rattle.script.specs.Output.{Writes}
use Rattle.script.proofs.answer.RefSliceOpSendRowPut.put.Given as goal

abbrev pub invariant-loop-row : goal.invariant-loop-row
invariant-loop-row l = Writes l.initial.out l.out
