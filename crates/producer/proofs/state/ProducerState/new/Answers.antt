-- `ProducerState::new`: its scalars are those of a new producer.
use Rattle.std.proofs.Common.{◌∙◌}
use Rattle.producer.proofs.Fresh.{fresh}
use Rattle.producer.proofs.state.ProducerState.new.Goals as goal

pub returns : goal.returns
returns c = fresh _ c.args.handle (c.encode.ensures ∙ c.new.ensures)
