-- `ProducerState::is_batch_due`: the deadline is that of the scalars.
use Rattle.std.proofs.Common.{ap, ◌∙◌}
use Rattle.queue.specs.Run.{batch_elapsed}
use Rattle.upkeep.specs.Deadline.{has_elapsed}
use Rattle.plans.specs.Ids.{batch_deadline_of}
use Rattle.producer.specs.State.{state_of}
use Rattle.producer.proofs.Meets.{asked}
use Rattle.producer.proofs.Queries.{batch_elapsed_lem}
use Rattle.producer.proofs.state.ProducerState.is_batch_due.Goals as goal

pub returns : goal.returns
returns c =
    let a = c.args in
    asked a.self.now (batch_elapsed a.now)
    (c.elapsed.ensures ∙ ap (has_elapsed a.now) (c.next_batch_deadline.ensures ∙ ap batch_deadline_of c.decode.ensures) ∙ batch_elapsed_lem (state_of a.self.now) a.now)
