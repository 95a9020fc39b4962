-- `ProducerState::change`: the scalars and the answer are those planned.
use Rattle.std.proofs.Common.{ap, subst, ◌∙◌}
use Rattle.std.specs.Prelude.{Result}
use Rattle.types.specs.declared.error.ProducerError.{ProducerError}
use Rattle.plans.specs.Settings.{set_planned}
use Rattle.plans.specs.declared.state.Core.{Core}
use Rattle.producer.specs.Settings.{Changes}
use Rattle.producer.proofs.Scalars.{sets}
use Rattle.producer.proofs.state.ProducerState.change.Goals as goal

pub returns : goal.returns
returns c =
    let a = c.args in
    let t = c.store_planned.new.self in
    let x = c.store_planned.result in
    let both = sets a.self.now t x a.s (subst (λ (k : Result Core ProducerError). Changes k a.self.now t x) (c.set-plan.ensures ∙ ap (set_planned a.s) c.decode.ensures) c.store_planned.ensures) in
    record { meets = both.0; kept = both.1 }
