-- What a planned setting leaves of a state, and answers. This mirrors the code.
use Rattle.std.specs.Prelude.{◌≡◌, Err, Ok, Result}
use Rattle.types.specs.declared.error.ProducerError.{ProducerError}
use Rattle.plans.specs.declared.state.Core.{Core}
use Rattle.producer.specs.Apply.{store_core}
use Rattle.producer.specs.State.{state_of}
use Rattle.producer.specs.declared.state.ProducerState.{ProducerState}

-- the planned scalars are stored; of a refusal every row stays
abbrev pub Changes : Result Core ProducerError → ProducerState → ProducerState → Result (Unit {0}) ProducerError → Type 0
Changes (Ok c) before after answer = (state_of after ≡ store_core c (state_of before)) × (answer ≡ Ok tt)
Changes (Err e) before after answer = (after ≡ before) × (answer ≡ Err e)
