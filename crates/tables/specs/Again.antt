-- What a replay pushes of an entry: nothing of a batched one.
use Rattle.std.specs.Prelude.{Option, None, Some}
use Rattle.laws.specs.Choice.{pick}
use Rattle.types.specs.declared.entry.Replay.{Replay}
use Rattle.queue.specs.Tables.{is_batched}

abbrev pub unless_batched : {A : Type 0} → Replay → A → Option A
unless_batched replay x = pick (is_batched replay) None (Some x)
