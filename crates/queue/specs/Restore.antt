-- A snapshot and then the replay of its table (document 01, 'receipts, errors, snapshot, replay'), once and twice in a row (document 02, K14).
use Rattle.std.specs.Prelude.{ℕ, ◌≤◌, ◌≡◌, true, List, [], map, length}
use Rattle.types.specs.declared.entry.OpSend.{OpSend}
use Rattle.types.specs.declared.types.ProducerHandle.{ProducerHandle}
use Rattle.wire.specs.Batch.{All}
use Rattle.queue.specs.Sizes.{outbound_size}
use Rattle.queue.specs.Queue.{Queue, Outcome, done, new_queue}
use Rattle.queue.specs.Settle.{handed}
use Rattle.queue.specs.Tables.{batched_of, framed_of, frames_for, again, mark, snapshot_pending_sends, replay_snapshots, replay_pending_outbound}
use Rattle.queue.specs.Run.{Call, AllRanged, after}

-- what the two calls hand out and leave: the batched entries are dropped, and all others are pending again with their frames, in order
pub record Restored (q : Queue) (droppedTable replayTable : List OpSend) (r : Outcome (Unit {0})) : Type 0 where
  pub dropped : droppedTable ≡ batched_of q.pending
  pub kept : replayTable ≡ framed_of q.pending
  pub carried_out : r.1 ≡ done tt
  pub pending : r.0.pending ≡ map mark replayTable
  -- the index is rebuilt
  pub answerable : All (λ op. op.answerable ≡ true) r.0.pending
  pub frames : r.0.out.frames ≡ map again replayTable
  pub waiting : r.0.out.waiting ≡ frames_for replayTable
  -- nothing is sent twice: `replay_pending_outbound` finds no frame to push
  pub once : replay_pending_outbound r.0 ≡ (r.0, done 0)

-- after any calls from a new producer; a table of more than 1,024 frames is refused by 4, and no table of a snapshot by 12 or 7
abbrev pub RestoreRule : Type 0
RestoreRule =
    (store : List ℕ) (handle : ProducerHandle) (cs : List Call) → AllRanged cs
    → (droppedRoom replayRoom : ℕ) (p : Queue) (droppedTable replayTable : List OpSend)
    → snapshot_pending_sends droppedRoom replayRoom (after store (new_queue handle) cs) ≡ (p, done (handed droppedTable, handed replayTable))
    → frames_for replayTable ≤ outbound_size
    → Restored (after store (new_queue handle) cs) droppedTable replayTable (replay_snapshots replayTable p)

-- after a reconnect that left `first`, having replayed `table`, a second one: its snapshot finds nothing to drop and hands out the same entries,
-- now marked; its replay is accepted, and the queue is `first` again, the whole of it
pub record Twice (first : Queue) (droppedRoom replayRoom : ℕ) (table : List OpSend) : Type 0 where
  pub between : Queue
  pub snapshot : snapshot_pending_sends droppedRoom replayRoom first ≡ (between, done (handed [], handed (map mark table)))
  pub replay : replay_snapshots (map mark table) between ≡ (first, done tt)

-- for every queue, reached by calls or not, after a snapshot and the accepted replay of the whole of its table; the second snapshot's replay
-- table has room for as many entries, and its dropped table may have none
abbrev pub TwiceRule : Type 0
TwiceRule =
    (q p first : Queue) (droppedRoom replayRoom droppedRoom₂ replayRoom₂ : ℕ) (dropped table : List OpSend)
    → snapshot_pending_sends droppedRoom replayRoom q ≡ (p, done (handed dropped, handed table))
    → replay_snapshots table p ≡ (first, done tt)
    → length table ≤ replayRoom₂
    → Twice first droppedRoom₂ replayRoom₂ table
