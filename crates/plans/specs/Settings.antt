-- What the plans of settings answer.
use Rattle.std.specs.Prelude.{ℕ, List, length, nat_le, Err, Ok, Result}
use Rattle.laws.specs.Choice.{pick}
use Rattle.queue.specs.Settings.{allowed, changed, closed, name_from, with_name}
use Rattle.types.specs.Bounds.{longest_name}
use Rattle.types.specs.declared.error.ProducerError.{ProducerError}
use Rattle.types.specs.declared.error.ProducerError.TheVariants.{SettingOverBound}
use Rattle.types.specs.declared.settings.Setting.{Setting}
use Rattle.plans.specs.declared.state.Core.{Core}
use Rattle.plans.specs.State.{core_settings}

abbrev pub set_planned : Setting → Core → Result Core ProducerError
set_planned s c = pick (allowed s) (Ok (core_settings (changed s c.settings) c)) (Err SettingOverBound)

abbrev pub name_planned : List ℕ → Core → Result Core ProducerError
name_planned name c =
    pick (nat_le (length name) longest_name) (Ok (core_settings (with_name (name_from name) c.settings) c)) (Err SettingOverBound)

abbrev pub closed_core : Core → Core
closed_core c = core_settings (closed c.settings) c
