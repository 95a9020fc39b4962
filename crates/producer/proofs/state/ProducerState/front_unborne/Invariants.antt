-- `ProducerState::front_unborne`: with the frames of the entries before the place at the front too, those of all are.
use Rattle.std.proofs.Common.{◌-◌}
use Rattle.tables.specs.Unborne.{free}
use Rattle.producer.specs.View.{view}
use Rattle.producer.proofs.Free.{Freeing}
use Rattle.producer.proofs.state.ProducerState.front_unborne.Given as goal

abbrev pub invariant-loop-i : goal.invariant-loop-i
invariant-loop-i l = Freeing (free l.ids) (view l.initial.self) (view l.self) (l.n - l.i)
