-- A script is carried out operation by operation.
use Rattle.std.specs.Prelude.{ℕ, ◌<◌, Option, Some, None}
use Rattle.laws.specs.Numbers.{add_sat}
use Rattle.script.specs.declared.operation.Operation.{Operation}

-- unless the run has ended, an operation stands at `at`, and the next place lies behind it
abbrev pub Steps : ℕ → ℕ → Option Operation → Type 0
Steps at len None = Unit {0}
Steps at len (Some op) = (at < len) × (at < add_sat at op.size)
