-- `ProducerState::start_at`: the scalars are those planned.
use Rattle.std.proofs.Common.{ap, ◌∙◌}
use Rattle.plans.specs.Ids.{with_initial_id}
use Rattle.plans.specs.declared.state.Core.{Core}
use Rattle.producer.specs.State.{state_of}
use Rattle.producer.specs.View.{queue_of}
use Rattle.producer.proofs.Meets.{left}
use Rattle.producer.proofs.Scalars.{with_core, starts}
use Rattle.producer.proofs.state.ProducerState.start_at.Goals as goal

pub returns : goal.returns
returns c =
    let s = state_of c.args.self.now in
    let core = c.set_initial_sequence_id-core.ensures ∙ ap (with_initial_id c.args.next.0) c.decode.ensures in
    left (ap queue_of (c.store_core.ensures ∙ ap (λ (k : Core). with_core k s) core) ∙ starts s c.args.next.0)
