-- What holds of every queue that calls make from a new one, whatever the calls are, replays included: the numbers that are kept are those of
-- the lists, the lists fit their rings, no push finds a full one, and the frames' numbers fit the protocol's types.
use Rattle.std.specs.Prelude.{ℕ, ◌+◌, ◌-◌, ◌^◌, ◌≤◌, ◌<◌, ◌≡◌, not, List, [], ◌∷◌, length, drop, ℤ, pos, negsuc, None, Option, Some}
use Rattle.wire.specs.Batch.{All}
use Rattle.wire.specs.Length.{batch_length}
use Rattle.types.specs.declared.frame.FrameRecord.{FrameRecord}
use Rattle.types.specs.declared.frame.FrameKind.{FrameKind}
use Rattle.types.specs.declared.frame.FrameKind.TheVariants.{Single, Batch, Chunked}
use Rattle.types.specs.declared.message.SingleMessage.{SingleMessage}
use Rattle.types.specs.declared.types.ProducerHandle.{ProducerHandle}
use Rattle.types.specs.declared.way.Way.{Way}
use Rattle.types.specs.declared.way.Way.TheVariants as way
use Rattle.queue.specs.Sizes.{outbound_size, held_size, pending_size}
use Rattle.queue.specs.Queue.{Queue, Outgoing, done, new_queue}
use Rattle.queue.specs.Batch.{flush_batch}
use Rattle.queue.specs.Send.{one, joins, is_too_large, go, plan}
use Rattle.queue.specs.Frame.{Frame}
use Rattle.queue.specs.Take.{next_outbound_frame}
use Rattle.queue.specs.Tables.{framed_of, unborne, replay_snapshots, replay_pending_outbound}
use Rattle.queue.specs.Run.{Call, send, flush, take, receipt, send_error, timeouts, initial_id, set, set_name, close, query, drain, snapshot, replay, resend, AllRanged, after}

-- the frames of a record that wait, and of all records
abbrev pub left : FrameKind → ℕ
left Single = 1
left (Batch b) = 1
left (Chunked c) = c.total_chunks - c.next_chunk

abbrev pub left_all : List FrameRecord → ℕ
left_all [] = 0
left_all (r ∷ rs) = left r.kind + left_all rs

-- the messages of the open batch are the last of those held
abbrev pub open_of : Outgoing → List SingleMessage
open_of o = drop (length o.held - o.batch.len) o.held

abbrev pub payload_sum : List SingleMessage → ℕ
payload_sum [] = 0
payload_sum (m ∷ ms) = m.payload.len + payload_sum ms

pub record Reachable (q : Queue) : Type 0 where
  pub counted : q.out.waiting ≡ left_all q.out.frames
  pub waiting : q.out.waiting ≤ outbound_size
  -- so the records are at most 1,024 too
  pub records : length q.out.frames ≤ q.out.waiting
  pub held : length q.out.held ≤ held_size
  pub pending : length q.pending ≤ pending_size
  pub opened : length (open_of q.out) ≡ q.out.batch.len
  pub size : q.out.batch.current_size_bytes ≡ payload_sum (open_of q.out)
  pub encoded : q.out.batch.encoded_len ≡ batch_length (open_of q.out)

-- the records that a way pushes
abbrev pub records : Way → ℕ
records (way.TooLarge before) = one before
records (way.Join before after) = one before + one after
records (way.Single before) = one before + 1
records (way.Chunked before size count) = one before + 1

-- there is room for so many records, held messages and pending entries more
pub record HasRoom (q : Queue) (newRecords newHeld newPending : ℕ) : Type 0 where
  pub frames : length q.out.frames + newRecords ≤ outbound_size
  pub held : length q.out.held + newHeld ≤ held_size
  pub pending : length q.pending + newPending ≤ pending_size

-- a call that is not refused finds room for all that it pushes
abbrev pub FindsRoom : List ℕ → Queue → Call → Type 0
FindsRoom store q (send a) = (w : Way) → plan (length store) a q ≡ go w → HasRoom q (records w) (one (joins w)) (one (not (is_too_large w)))
FindsRoom store q (flush publish_time) = (flush_batch publish_time q).1 ≡ done 1 → HasRoom q 1 0 0
FindsRoom store q (take room) = Unit {0}
FindsRoom store q (receipt id message_id) = Unit {0}
FindsRoom store q (send_error id code) = Unit {0}
FindsRoom store q (timeouts now room) = Unit {0}
FindsRoom store q (initial_id next) = Unit {0}
FindsRoom store q (set s) = Unit {0}
FindsRoom store q (set_name bytes) = Unit {0}
FindsRoom store q close = Unit {0}
FindsRoom store q (query k) = Unit {0}
FindsRoom store q (drain room) = Unit {0}
FindsRoom store q (snapshot droppedRoom replayRoom) = Unit {0}
FindsRoom store q (replay entries) = (replay_snapshots entries q).1 ≡ done tt → HasRoom q (length (framed_of entries)) 0 (length entries)
FindsRoom store q resend =
    (frames : ℕ) → (replay_pending_outbound q).1 ≡ done frames → HasRoom q (length (framed_of (unborne q.out.frames q.pending))) 0 0

abbrev pub ReachableRule : Type 0
ReachableRule =
    (store : List ℕ) (handle : ProducerHandle) (cs : List Call) → AllRanged cs
    → Reachable (after store (new_queue handle) cs) × ((c : Call) → FindsRoom store (after store (new_queue handle) cs) c)

-- ── the numbers that PulsarApi.proto has as int32 ──

abbrev pub Below31 : Option ℕ → Type 0
Below31 None = Unit {0}
Below31 (Some n) = n < 2 ^ 31

-- all those of a command and its metadata that are answered unsigned; `uncompressed_size` is a uint32 there
pub record FitsInt32 (f : Frame) : Type 0 where
  pub num_messages : f.command.num_messages < 2 ^ 31
  pub num_messages_in_batch : Below31 f.metadata.num_messages_in_batch
  pub chunk_id : Below31 f.metadata.chunk_id
  pub num_chunks : Below31 f.metadata.num_chunks
  pub total_chunk_msg_size : Below31 f.metadata.total_chunk_msg_size

-- no premise: it only says that a message count which a call brings, in a message or in an entry of a replay table, is an i32
abbrev pub IsI32 : ℤ → Type 0
IsI32 (pos n) = n < 2 ^ 31
IsI32 (negsuc n) = n < 2 ^ 31

abbrev pub Counted : Call → Type 0
Counted (send a) = IsI32 a.message.num_messages
Counted (replay entries) = All (λ op. IsI32 op.publish.message.num_messages) entries
Counted c = Unit {0}

abbrev pub AllCounted : List Call → Type 0
AllCounted [] = Unit {0}
AllCounted (c ∷ cs) = Counted c × AllCounted cs

-- whatever a take is lent, and whatever was called before
abbrev pub Int32Rule : Type 0
Int32Rule =
    (store : List ℕ) (handle : ProducerHandle) (cs : List Call) → AllCounted cs
    → (lent : List ℕ) (room : ℕ) (f : Frame) → (next_outbound_frame lent room (after store (new_queue handle) cs)).1 ≡ done f → FitsInt32 f
