-- `ProducerState::front_entries`: the entries that the loop has yet to reach are still to go to the front.
use Rattle.std.proofs.Common.{map}
use Rattle.rows.specs.Entry.{decode_entry}
use Rattle.producer.specs.State.{state_of}
use Rattle.producer.proofs.Fronts.{Entering}
use Rattle.producer.proofs.state.ProducerState.front_entries.Given as goal

abbrev pub invariant-loop-row : goal.invariant-loop-row
invariant-loop-row l = Entering (state_of l.initial.self) (map decode_entry l.ops) (state_of l.self) (map decode_entry l.row-iterator.iter.rest.now)
