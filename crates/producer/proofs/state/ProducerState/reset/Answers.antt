-- `ProducerState::reset`: its scalars are those of a new producer.
use Rattle.std.proofs.Common.{◌∙◌}
use Rattle.producer.proofs.Fresh.{fresh}
use Rattle.producer.proofs.state.ProducerState.reset.Goals as goal

pub returns : goal.returns
returns c = fresh _ c.args.handle (c.encode-self.ensures ∙ c.new.ensures)
