-- `tables::entries::all_well_formed`: the entries before the one at hand are well formed.
use Rattle.tables.proofs.Chains.{Tested}
use Rattle.tables.proofs.entries.all_well_formed.Given as goal

abbrev pub invariant-loop-op : goal.invariant-loop-op
invariant-loop-op l = Tested l.table l.op-index
