-- `ProducerState::move_back`: what is to leave stands so many places before its own.
use Rattle.std.proofs.Common.{◌-◌}
use Rattle.producer.specs.State.{state_of}
use Rattle.producer.proofs.Gap.{Moving}
use Rattle.producer.proofs.state.ProducerState.move_back.Given as goal

abbrev pub invariant-loop-i : goal.invariant-loop-i
invariant-loop-i l = Moving (state_of l.initial.self) l.place (state_of l.self) (l.place - l.i)
