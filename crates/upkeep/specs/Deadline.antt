-- Deadlines that may be absent.
use Rattle.std.specs.Prelude.{ℕ, Bool, false, leb, eqb, None, Option, Some}
use Rattle.laws.specs.Choice.{pick}
use Rattle.types.specs.Time.{deadline_with_clamp}

abbrev pub maybe_after : Option ℕ → ℕ → Option ℕ
maybe_after None time = None
maybe_after (Some delay) time = Some (deadline_with_clamp time delay)

abbrev pub has_elapsed : ℕ → Option ℕ → Bool
has_elapsed now None = false
has_elapsed now (Some deadline) = leb deadline now

abbrev pub unless_none : ℕ → Option ℕ → Option ℕ
unless_none waiting deadline = pick (eqb waiting 0) None deadline
