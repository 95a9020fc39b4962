-- `ProducerState::unborne_frames`: the sum is that of the entries passed.
use Rattle.tables.specs.Unborne.{free}
use Rattle.producer.specs.View.{view}
use Rattle.producer.proofs.Free.{Summing}
use Rattle.producer.proofs.state.ProducerState.unborne_frames.Given as goal

abbrev pub invariant-loop-i : goal.invariant-loop-i
invariant-loop-i l = Summing (free l.ids) (view l.self).pending l.sum l.i
