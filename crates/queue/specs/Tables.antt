-- Document 01, 'receipts, errors, snapshot, replay': the drain, the snapshot and the two replays.
use Rattle.std.specs.Prelude.{ℕ, ◌+◌, Bool, true, false, not, ◌&&◌, ◌||◌, List, [], ◌∷◌, ◌++◌, map, length, ltb, eqb}
use Rattle.laws.specs.Choice.{pick}
use Rattle.laws.specs.Lists.{front_all}
use Rattle.laws.specs.Numbers.{add_sat}
use Rattle.types.specs.declared.entry.OpSend.{OpSend}
use Rattle.types.specs.declared.entry.Replay.{Replay}
use Rattle.types.specs.declared.entry.Replay.TheVariants as replay
use Rattle.types.specs.declared.frame.FrameRecord.{FrameRecord}
use Rattle.types.specs.declared.frame.FrameKind.{FrameKind}
use Rattle.types.specs.declared.frame.FrameKind.TheVariants as kind
use Rattle.types.specs.declared.settings.Setting.TheVariants.{BrokerReady}
use Rattle.types.specs.declared.stats.Counters.{Counters}
use Rattle.queue.specs.Sizes.{outbound_size, pending_size}
use Rattle.queue.specs.Queue.{Queue, Outgoing, Outcome, done, refuse, empty_outgoing, with_pending, with_out}
use Rattle.queue.specs.Settings.{changed}
use Rattle.queue.specs.Batch.{too_many}
use Rattle.queue.specs.Send.{within_bounds, total_chunks, record_of}
use Rattle.queue.specs.Settle.{Handed, handed, hand_out}

-- ── drain and snapshot ──

-- `drain_pending_sends` hands out all entries and empties batch and frames
unfoldable pub drain_pending_sends : ℕ → Queue → Outcome Handed
drain_pending_sends room q = hand_out room q.pending q (with_out empty_outgoing (with_pending [] q))

-- a batched entry has no frame of its own
abbrev pub is_batched : Replay → Bool
is_batched replay.Batched = true
is_batched replay.Single = false
is_batched (replay.Chunked count size) = false

abbrev pub batched_of : List OpSend → List OpSend
batched_of [] = []
batched_of (op ∷ l) = pick (is_batched op.publish.replay) (op ∷ batched_of l) (batched_of l)

abbrev pub framed_of : List OpSend → List OpSend
framed_of [] = []
framed_of (op ∷ l) = pick (is_batched op.publish.replay) (framed_of l) (op ∷ framed_of l)

-- each dropped entry raises `total_send_failed` by one
abbrev pub failed : ℕ → Counters → Counters
failed n k =
    record {
      total_msgs_sent = k.total_msgs_sent;
      total_bytes_sent = k.total_bytes_sent;
      total_send_failed = add_sat k.total_send_failed n;
      total_acks_received = k.total_acks_received;
    }

-- a snapshot clears `broker_ready`, and no entry or frame stays
abbrev pub snapped : Queue → Queue
snapped q =
    record {
      handle = q.handle;
      settings = changed (BrokerReady false) q.settings;
      ids = q.ids;
      counters = failed (length (batched_of q.pending)) q.counters;
      pending = [];
      out = empty_outgoing;
    }

-- `snapshot_pending_sends` hands batched entries to the dropped table and the others to the replay table
unfoldable pub snapshot_pending_sends : ℕ → ℕ → Queue → Outcome (Handed × Handed)
snapshot_pending_sends droppedRoom replayRoom q =
    let dropped = batched_of q.pending in
    let kept = framed_of q.pending in
    pick (ltb droppedRoom (length dropped) || ltb replayRoom (length kept)) (refuse 9 q) (snapped q, done (handed dropped, handed kept))

-- ── replays ──

-- the frame record of an entry, from its first chunk on, and its frames
abbrev pub kind_again : Replay → FrameKind
kind_again replay.Batched = kind.Single
kind_again replay.Single = kind.Single
kind_again (replay.Chunked count size) = kind.Chunked (record { total_chunks = count; next_chunk = 0; max_chunk_size = size })

abbrev pub again : OpSend → FrameRecord
again op = record_of op (kind_again op.publish.replay)

abbrev pub frames_of : Replay → ℕ
frames_of replay.Batched = 0
frames_of replay.Single = 1
frames_of (replay.Chunked count size) = count

abbrev pub frames_for : List OpSend → ℕ
frames_for [] = 0
frames_for (op ∷ l) = frames_of op.publish.replay + frames_for l

-- a chunked one's chunk count is that of its payload length and chunk size
abbrev pub has_chunk_count : ℕ → Replay → Bool
has_chunk_count len replay.Batched = true
has_chunk_count len replay.Single = true
has_chunk_count len (replay.Chunked count size) = eqb count (total_chunks len size)

-- 12 refuses an entry without that count, or past any bound of 3, the reservation's included
abbrev pub well_formed : OpSend → Bool
well_formed op =
    has_chunk_count op.publish.message.payload.len op.publish.replay && within_bounds op.publish.message op.publish.reservation.bytes

abbrev pub all_well_formed : List OpSend → Bool
all_well_formed [] = true
all_well_formed (op ∷ l) = well_formed op && all_well_formed l

-- the index is rebuilt: every id is in it
abbrev pub mark : OpSend → OpSend
mark op = record { sequence_id = op.sequence_id; answerable = true; publish = op.publish }

-- the frames of entries, in order, in front of those that wait
abbrev pub fronted : List OpSend → Outgoing → Outgoing
fronted l o =
    record {
      frames = front_all outbound_size (map again (framed_of l)) o.frames;
      waiting = add_sat (frames_for l) o.waiting;
      held = o.held;
      batch = o.batch;
    }

-- entries and their frames in front of all others, and every mark set
abbrev pub put_back : List OpSend → Queue → Queue
put_back l q = with_out (fronted l q.out) (with_pending (map mark (l ++ q.pending)) q)

-- `replay_snapshots` puts a table back: 12, then 7 (pending would pass 256), then 4
unfoldable pub replay_snapshots : List OpSend → Queue → Outcome (Unit {0})
replay_snapshots l q =
    pick (not (all_well_formed l)) (refuse 12 q)
    (pick (ltb pending_size (length l + length q.pending)) (refuse 7 q)
    (pick (too_many (frames_for l) q) (refuse 4 q) (put_back l q, done tt)))

-- a waiting frame bears the id; a batch frame bears its lowest
abbrev pub borne : ℕ → List FrameRecord → Bool
borne id [] = false
borne id (r ∷ rs) = eqb r.sequence_id.0 id || borne id rs

-- the entries whose id no waiting frame bears
abbrev pub unborne : List FrameRecord → List OpSend → List OpSend
unborne rs [] = []
unborne rs (op ∷ l) = pick (borne op.sequence_id.0 rs) (unborne rs l) (op ∷ unborne rs l)

-- `replay_pending_outbound` puts their frames at the front, and answers how many
unfoldable pub replay_pending_outbound : Queue → Outcome ℕ
replay_pending_outbound q =
    let l = unborne q.out.frames q.pending in
    pick (too_many (frames_for l) q) (refuse 4 q) (with_out (fronted l q.out) q, done (frames_for l))
