-- What the decision of a send works with.
use Rattle.std.specs.Prelude.{Bool}
use Rattle.laws.specs.Choice.{pick}
use Rattle.types.specs.Empty.{empty_batch}
use Rattle.plans.specs.declared.state.Core.{Core}
use Rattle.plans.specs.Delta.{core_batch}

-- with the batch that is left
abbrev pub left_core : Bool → Core → Core
left_core flush c = core_batch (pick flush empty_batch c.batch) c
