-- `ProducerState::batch_deadline`: that of the scalars.
use Rattle.std.proofs.Common.{ap, ◌∙◌}
use Rattle.queue.specs.Run.{batch_deadline}
use Rattle.plans.specs.Ids.{batch_deadline_of}
use Rattle.producer.specs.State.{state_of}
use Rattle.producer.proofs.Meets.{asked}
use Rattle.producer.proofs.Queries.{batch_deadline_lem}
use Rattle.producer.proofs.state.ProducerState.batch_deadline.Goals as goal

pub returns : goal.returns
returns c =
    let s = c.args.self.now in
    asked s batch_deadline (c.next_batch_deadline.ensures ∙ ap batch_deadline_of c.decode.ensures ∙ batch_deadline_lem (state_of s))
