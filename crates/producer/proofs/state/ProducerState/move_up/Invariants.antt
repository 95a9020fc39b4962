-- `ProducerState::move_up`: what is to leave stands at the loop's place.
use Rattle.producer.specs.State.{state_of}
use Rattle.producer.proofs.Gap.{Moving}
use Rattle.producer.proofs.state.ProducerState.move_up.Given as goal

abbrev pub invariant-loop-i : goal.invariant-loop-i
invariant-loop-i l = Moving (state_of l.initial.self) l.place (state_of l.self) l.i
