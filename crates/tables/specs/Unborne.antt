-- Ids, and the entries that bear none of them.
use Rattle.std.specs.Prelude.{ℕ, Bool, false, not, ◌||◌, List, [], ◌∷◌, ◌==◌}
use Rattle.types.specs.declared.entry.OpSend.{OpSend}
use Rattle.types.specs.declared.types.SequenceId.{SequenceId}

abbrev pub borne_by : ℕ → List SequenceId → Bool
borne_by id [] = false
borne_by id (x ∷ ids) = x.0 == id || borne_by id ids

abbrev pub free : List SequenceId → OpSend → Bool
free ids op = not (borne_by op.sequence_id.0 ids)
