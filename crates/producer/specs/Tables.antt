-- What drains and the snapshot answer and promise, and their steps.
use Rattle.std.specs.Prelude.{◌≡◌, ℕ, List, [], length, map, take, drop, Err, None, Ok, Option, Result, Some}
use Rattle.types.specs.declared.entry.OpSend.{OpSend}
use Rattle.rows.specs.Entry.{decode_entry}
use Rattle.rows.specs.declared.entry.OpSendRow.{OpSendRow}
use Rattle.queue.specs.Queue.{Queue, Answer, done}
use Rattle.queue.specs.Run.{drain, timeouts, snapshot}
use Rattle.queue.specs.Settle.{Handed, due_count}
use Rattle.queue.specs.Told.{Kept, told_error}
use Rattle.tables.specs.Drain.{cleared_each, gone_count, handout_of}
use Rattle.tables.specs.Scalars.{core_after}
use Rattle.tables.specs.declared.snapshot.Snapshot.{Snapshot}
use Rattle.producer.specs.Meets.{Meets}
use Rattle.producer.specs.State.{State}
use Rattle.producer.specs.declared.state.ProducerState.{ProducerState}
use Rattle.types.specs.declared.error.ProducerError.{ProducerError}

-- the count as it is answered, and so many entries of the table after the call
abbrev pub told_first : ℕ → List OpSendRow → Handed
told_first n table = record { count = n; entries = map decode_entry (take n table) }

abbrev pub told_table : Result ℕ ProducerError → List OpSendRow → Answer Handed
told_table (Ok n) table = done (told_first n table)
told_table (Err e) table = told_error e

-- how many rows of the table that is; none of a refusal
abbrev pub handed_count : Result ℕ ProducerError → ℕ
handed_count (Ok n) = n
handed_count (Err e) = 0

-- both tables of a snapshot
abbrev pub told_snapshot : Result Snapshot ProducerError → List OpSendRow → List OpSendRow → Answer (Handed × Handed)
told_snapshot (Ok n) dropped replay = done (told_first n.dropped dropped, told_first n.replay replay)
told_snapshot (Err e) dropped replay = told_error e

abbrev pub dropped_count : Result Snapshot ProducerError → ℕ
dropped_count (Ok n) = n.dropped
dropped_count (Err e) = 0

abbrev pub replay_count : Result Snapshot ProducerError → ℕ
replay_count (Ok n) = n.replay
replay_count (Err e) = 0

-- beyond the first n rows a table is as it was
abbrev pub Beyond : ℕ → List OpSendRow → List OpSendRow → Type 0
Beyond n before after = drop n after ≡ drop n before

-- ── what is promised: of the state and the tables before, the answer, and the state and the tables after ──

-- the call of a drain: of the entries that are due at a time, or of all
abbrev pub MeetsDrain : Option ℕ → ℕ → ProducerState → ProducerState → Answer Handed → Type 0
MeetsDrain None room s t told = Meets [] (drain room) s t told
MeetsDrain (Some time) room s t told = Meets [] (timeouts time room) s t told

abbrev pub Drains : Option ℕ → ProducerState → List OpSendRow → Result ℕ ProducerError → ProducerState → List OpSendRow → Type 0
Drains due s ys a t zs =
    MeetsDrain due (length ys) s t (told_table a zs)
    × Beyond (handed_count a) ys zs
    × Kept (told_table a zs) s t

abbrev pub Snaps : ProducerState → List OpSendRow → List OpSendRow → Result Snapshot ProducerError → ProducerState → List OpSendRow → List OpSendRow → Type 0
Snaps s ds rs a t zs us =
    Meets [] (snapshot (length ds) (length rs)) s t (told_snapshot a zs us)
    × Beyond (dropped_count a) ds zs
    × Beyond (replay_count a) rs us
    × Kept (told_snapshot a zs us) s t

-- ── the steps ──

abbrev pub gone_of : Option ℕ → Queue → List OpSend
gone_of None q = q.pending
gone_of (Some time) q = take (due_count time q.settings.delays.send_timeout q.pending) q.pending

-- how many of the entries a drain hands out
abbrev pub plan_of : Option ℕ → List OpSend → ℕ → State → Result ℕ ProducerError
plan_of due es room s = handout_of (gone_count due s.core.settings.delays.send_timeout es) room

abbrev pub drained_state : Option ℕ → List OpSend → ℕ → State → State
drained_state due es count s =
    record s {
      core = core_after due count s.core;
      pending_marks = cleared_each (take count es) s.pending_ids s.pending_marks;
    }
