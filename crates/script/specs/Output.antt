-- What a writer leaves of the output that it is lent.
use Rattle.std.specs.Prelude.{◌≡◌, ℕ, ◌≤◌, max, List, length, take, drop}
use Rattle.script.specs.declared.write.Output.{Output}

-- something was written from `at` up to `r`, or nothing, and within the output; what stands before and behind is as it was
pub record Wrote (at : ℕ) (before after : List ℕ) (r : ℕ) : Type 0 where
  pub onward : at ≤ r
  pub within : r ≤ max at (length before)
  pub same : length after ≡ length before
  pub front : take at after ≡ take at before
  pub rest : drop r after ≡ drop r before

-- the same bytes are written, from the output's place up to its new one
pub record Writes (before after : Output) : Type 0 where
  pub same_reference : after.bytes.ghost_name ≡ before.bytes.ghost_name
  pub wrote : Wrote before.at before.bytes.now after.bytes.now after.at
