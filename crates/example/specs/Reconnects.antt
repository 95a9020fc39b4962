-- What the program for a line that breaks twice promises (docs/ORDER.md, 'Reconnecting').
use Rattle.std.specs.Prelude.{◌≡◌, List, [], length, Err, Ok, Result}
use Rattle.rows.specs.declared.entry.OpSendRow.{OpSendRow}
use Rattle.types.specs.declared.error.ProducerError.{ProducerError}
use Rattle.tables.specs.declared.snapshot.Snapshot.{Snapshot}
use Rattle.queue.specs.Queue.{done}
use Rattle.queue.specs.Run.{snapshot}
use Rattle.queue.specs.Told.{told_error}
use Rattle.producer.specs.Meets.{Meets}
use Rattle.producer.specs.Runs.{Reconnect}
use Rattle.producer.specs.Tables.{told_snapshot}
use Rattle.producer.specs.View.{view}
use Rattle.producer.specs.declared.state.ProducerState.{ProducerState}

-- where a reconnect is refused: tables and state before, state and tables after
pub data Stopped (ys ws : List OpSendRow) (before after : ProducerState) (dropped replay : List OpSendRow) (e : ProducerError) : Type 0 where
  -- the snapshot is refused: state and tables are as they were
  not_begun : Meets [] (snapshot (length ys) (length ws)) before before (told_error e) → after ≡ before → dropped ≡ ys → replay ≡ ws
      → Stopped ys ws before after dropped replay e
  -- the replay is refused: what was pending stands in the tables
  not_replayed : (n : Snapshot) → Reconnect (length ys) (length ws) before after (told_snapshot (Ok n) dropped replay) (told_error e)
      → Stopped ys ws before after dropped replay e

-- how a reconnect ends, by its answer
abbrev pub Ended : (ys ws : List OpSendRow) (before after : ProducerState) (dropped replay : List OpSendRow) → Result Snapshot ProducerError → Type 0
Ended ys ws before after dropped replay (Ok n) =
    Reconnect (length ys) (length ws) before after (told_snapshot (Ok n) dropped replay) (done tt)
Ended ys ws before after dropped replay (Err e) = Stopped ys ws before after dropped replay e

-- the answer and the state are those of one reconnect
pub record AsOnce (ys ws : List OpSendRow) (before after : ProducerState) (answer : Result Snapshot ProducerError) : Type 0 where
  pub first : ProducerState
  pub dropped : List OpSendRow
  pub replay : List OpSendRow
  pub once : Ended ys ws before first dropped replay answer
  pub same : view after ≡ view first
