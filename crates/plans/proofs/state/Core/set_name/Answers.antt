-- `Core::set_name`: the test is the definition's, and each side is one of its two answers.
use Rattle.std.specs.Prelude.{length, Err, Ok, Result}
use mathlib.Core.Path.{ap, sym, ◌∙◌}
use borrow.Author.Tests.{leb-true}
use lib.Seq.{take_all}
use Rattle.laws.proofs.Choice.{pick_true}
use Rattle.types.specs.Bounds.{longest_name}
use Rattle.types.specs.declared.frame.ProducerName.{ProducerName}
use Rattle.queue.specs.Settings.{name_from, with_name}
use Rattle.plans.specs.State.{core_settings}
use Rattle.plans.specs.declared.state.Core.{Core}
use Rattle.types.specs.declared.error.ProducerError.{ProducerError}
use Rattle.types.specs.declared.error.ProducerError.TheVariants.{SettingOverBound}
use Rattle.plans.proofs.state.Core.set_name.Goals as goal

pub returns-then-allows_name : goal.returns-then-allows_name
returns-then-allows_name c =
    let a = c.args in
    let name = a.name.now in
    let allowed = sym c.allows_name.ensures ∙ c.if-allows_name.true in
    let whole = take_all longest_name name (leb-true (length name) longest_name allowed) in
    let set : ProducerName → Result Core ProducerError = λ n. Ok (core_settings (with_name n a.self.settings) a.self) in
    ap set (c.name_from.ensures ∙ ap name_from whole) ∙ sym (pick_true (set (name_from name)) (Err SettingOverBound) allowed)
