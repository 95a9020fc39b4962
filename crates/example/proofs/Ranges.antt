-- What it tells to have an optional u64: the number is below 2^64. Assumes nothing.
use Rattle.std.proofs.Common.{ℕ, List, Option, None, Some}
use mir.Val.{Val}
use denote.Builtin.{u64}
use denote.Shadow.{shadow}
use Rattle.std.specs.contracts.option.Option.{the_field, the_type}
use Rattle.queue.specs.Run.{Is64}

pub in_range : (o : Option ℕ) (vs : List Val) → shadow ((the_field u64).row.own_val ((the_type u64).to o) vs) → Is64 o
in_range None vs k = tt
in_range (Some n) vs k = k.1.1.1.1.0.1
