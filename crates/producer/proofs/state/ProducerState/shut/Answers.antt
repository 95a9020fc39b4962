-- `ProducerState::shut`: the scalars are those planned.
use Rattle.std.proofs.Common.{ap, ◌∙◌}
use Rattle.plans.specs.Settings.{closed_core}
use Rattle.plans.specs.declared.state.Core.{Core}
use Rattle.producer.specs.State.{state_of}
use Rattle.producer.specs.View.{queue_of}
use Rattle.producer.proofs.Meets.{left}
use Rattle.producer.proofs.Scalars.{with_core, closes}
use Rattle.producer.proofs.state.ProducerState.shut.Goals as goal

pub returns : goal.returns
returns c =
    let s = state_of c.args.self.now in
    let core = c.close-core.ensures ∙ ap closed_core c.decode.ensures in
    left (ap queue_of (c.store_core.ensures ∙ ap (λ (k : Core). with_core k s) core) ∙ closes s)
