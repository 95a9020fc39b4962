-- What a drain and a snapshot say that they handed out lies in the tables that they were lent. Assumes nothing.
use Rattle.std.specs.Prelude.{Err, Ok, Result}
use Rattle.std.proofs.Common.{ℕ, ◌≤◌, List, [], zero-le}
use Rattle.types.specs.declared.error.ProducerError.{ProducerError}
use Rattle.rows.specs.declared.entry.OpSendRow.{OpSendRow}
use Rattle.tables.specs.declared.snapshot.Snapshot.{Snapshot}
use Rattle.queue.specs.Run.{drain, timeouts, snapshot}
use Rattle.producer.specs.Meets.{Meets}
use Rattle.producer.specs.Tables.{told_table, told_snapshot, handed_count, dropped_count, replay_count}
use Rattle.producer.specs.declared.state.ProducerState.{ProducerState}
use Rattle.producer.proofs.Fits.{drain_fits, timeouts_fit, snapshot_fits}

module _ (s t : ProducerState) (room : ℕ) (table : List OpSendRow) where
  pub drained : (a : Result ℕ ProducerError) → Meets [] (drain room) s t (told_table a table) → handed_count a ≤ room
  drained (Ok n) e = drain_fits s t room n table e
  drained (Err x) e = zero-le

  pub timed : (a : Result ℕ ProducerError) (time : ℕ) → Meets [] (timeouts time room) s t (told_table a table) → handed_count a ≤ room
  timed (Ok n) time e = timeouts_fit s t room n table time e
  timed (Err x) time e = zero-le

pub snapped : (s t : ProducerState) (ds rs : ℕ) (dropped replay : List OpSendRow) (a : Result Snapshot ProducerError)
    → Meets [] (snapshot ds rs) s t (told_snapshot a dropped replay) → (dropped_count a ≤ ds) × (replay_count a ≤ rs)
snapped s t ds rs dropped replay (Ok n) e = snapshot_fits s t ds rs n dropped replay e
snapped s t ds rs dropped replay (Err x) e = (zero-le, zero-le)
