-- `ProducerState::may_add`: the scalars are those of the queue.
use Rattle.std.proofs.Common.{ap, ◌∙◌, w32}
use mir.Val.{to_z, of_z}
use mir.ValLaws.{to_z-of_z}
use Rattle.queue.specs.Batch.{can_add_to_batch}
use Rattle.queue.specs.Queries.{may_add}
use Rattle.queue.specs.Run.{can_add}
use Rattle.plans.specs.declared.state.Core.{Core}
use Rattle.producer.specs.State.{state_of}
use Rattle.producer.specs.View.{queue_of}
use Rattle.producer.proofs.Meets.{asked}
use Rattle.producer.proofs.state.ProducerState.may_add.Goals as goal

pub returns : goal.returns
unfolding may_add queue_of
returns c =
    let a = c.args in
    let k = (state_of a.self.now).core in
    asked a.self.now (can_add a.payload_size _)
    (c.can_add_to_batch.ensures
    ∙ ap (λ (x : Core). can_add_to_batch x.settings x.batch a.payload_size (to_z w32 (of_z w32 a.num_messages))) c.decode.ensures
    ∙ ap (can_add_to_batch k.settings k.batch a.payload_size) (to_z-of_z w32 a.num_messages c.ranges.num_messages))
