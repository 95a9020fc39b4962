-- Document 01, 'sends': what a send does with its message, its refusals in order, and the send.
use Rattle.std.specs.Prelude.{ℕ, ◌+◌, ◌-◌, ◌*◌, ◌/◌, ◌^◌, min, max, Bool, true, false, not, ◌&&◌, ◌||◌, List, [], ◌∷◌, length, leb, ltb, eqb, ℤ, pos}
use Rattle.laws.specs.Choice.{pick}
use Rattle.laws.specs.Lists.{onto}
use Rattle.laws.specs.Numbers.{add_sat}
use Rattle.types.specs.Bounds.{longest_payload, longest_key, longest_name}
use Rattle.types.specs.MemoryLimit.{reservable}
use Rattle.types.specs.Values.{part_in, maybe_in, up_to}
use Rattle.types.specs.Empty.{empty_batch}
use Rattle.types.specs.declared.batch.BatchContainer.{BatchContainer}
use Rattle.types.specs.declared.entry.OpSend.{OpSend}
use Rattle.types.specs.declared.entry.Replay.{Replay}
use Rattle.types.specs.declared.entry.Replay.TheVariants as replay
use Rattle.types.specs.declared.frame.FrameRecord.{FrameRecord}
use Rattle.types.specs.declared.frame.FrameKind.{FrameKind}
use Rattle.types.specs.declared.frame.FrameKind.TheVariants as kind
use Rattle.types.specs.declared.message.Part.{Part}
use Rattle.types.specs.declared.message.OutgoingMessage.{OutgoingMessage}
use Rattle.types.specs.declared.settings.Limits.{Limits}
use Rattle.types.specs.declared.settings.ProducerSettings.{ProducerSettings}
use Rattle.types.specs.declared.way.Way.{Way}
use Rattle.types.specs.declared.way.Way.TheVariants.{TooLarge, Join, Single, Chunked}
use Rattle.queue.specs.Sizes.{held_size, pending_size}
use Rattle.queue.specs.Queue.{Queue, Outcome, Answer, refused, done, refuse, with_out}
use Rattle.queue.specs.Ids.{assigned}
use Rattle.queue.specs.Batch.{at_least_one, may_join, is_empty, is_full, same_txn, single_of, grown, push, counted, flushed, too_many}

-- what a send brings
pub record Sending : Type 0 where
  pub message : OutgoingMessage
  pub reserved : ℕ
  -- 16 bytes, for chunks
  pub uuid : List ℕ
  pub publish_time : ℕ
  pub now : ℕ

-- ── the way of a message ──

-- payload equal to the limit is not too large
abbrev pub large : ProducerSettings → OutgoingMessage → Bool
large t m = ltb t.limits.max_message_size m.payload.len

-- the payload size of a chunk (`emit_chunked`; document 02, K6): the limit less the headroom if the limit exceeds four times the
-- headroom, else the limit
abbrev pub chunk_size : ℕ → ℕ → ℕ
chunk_size headroom limit = pick (ltb (4 * headroom) limit) (limit - headroom) limit

-- as they are set at the send
abbrev pub chunk_size_of : Limits → ℕ
chunk_size_of l = chunk_size l.metadata_reservation l.max_message_size

-- `compute_total_chunks`: length divided by that size, rounded up, at least 1; 1 when the size is 0; it stops at 2^31 - 1
abbrev pub total_chunks : ℕ → ℕ → ℕ
total_chunks len size = pick (eqb size 0) 1 (min (max ((len + (size - 1)) / size) 1) (2 ^ 31 - 1))

module _ (t : ProducerSettings) (m : OutgoingMessage) where
  -- a waiting batch of another transaction is flushed (batching on)
  abbrev pub other_txn : BatchContainer → Bool
  other_txn b = not (is_empty b) && t.switches.batching_enabled && not (same_txn b.txn_id m.txn_id)

  -- if the message cannot join and a batch waits, that is flushed
  abbrev pub in_the_way : BatchContainer → Bool
  in_the_way b = not (is_empty b) && not (may_join t b m)

  -- the batch that is left
  abbrev pub left_of : Bool → BatchContainer → BatchContainer
  left_of flush b = pick flush empty_batch b

  -- a waiting batch is flushed before: by one of the two, since none waits after the first
  unfoldable pub flushes_before : BatchContainer → Bool
  flushes_before b = other_txn b || in_the_way b

  -- then size: above the limit, with chunking off refused, with chunking on it joins if it can, else it is chunked
  abbrev pub way_into : Bool → BatchContainer → Way
  way_into before b =
      pick (large t m && not t.switches.chunking_enabled) (TooLarge before)
      (pick (may_join t b m) (Join before (is_full t (add_sat b.len 1) (add_sat b.current_size_bytes m.payload.len)))
      (pick (large t m)
      (Chunked before (chunk_size_of t.limits) (total_chunks m.payload.len (chunk_size_of t.limits)))
      (Single before)))

  abbrev pub way_of : BatchContainer → Way
  way_of b = way_into (flushes_before b) (left_of (flushes_before b) b)

-- ── the refusals ──

-- 2: every part of the message lies in the store of n bytes
abbrev pub message_in : ℕ → OutgoingMessage → Part → Bool
message_in n m payload =
    part_in n payload && maybe_in n m.partition_key && maybe_in n m.ordering_key && maybe_in n m.schema_version
    && part_in n m.producer_name

-- 3: payload up to 16,777,216, keys and schema version up to 1,024, message name up to 64, reservation up to 2^40 - 1
abbrev pub within_bounds : OutgoingMessage → ℕ → Bool
within_bounds m reserved =
    leb m.payload.len longest_payload
    && up_to longest_key m.partition_key && up_to longest_key m.ordering_key && up_to longest_key m.schema_version
    && leb m.producer_name.len longest_name && reservable reserved

abbrev pub one : Bool → ℕ
one flush = pick flush 1 0

-- the frames that a way pushes
abbrev pub pushes : Way → ℕ
pushes (TooLarge before) = one before
pushes (Join before after) = one before + one after
pushes (Single before) = one before + 1
pushes (Chunked before size count) = one before + count

abbrev pub joins : Way → Bool
joins (TooLarge before) = false
joins (Join before after) = true
joins (Single before) = false
joins (Chunked before size count) = false

abbrev pub is_too_large : Way → Bool
is_too_large (TooLarge before) = true
is_too_large (Join before after) = false
is_too_large (Single before) = false
is_too_large (Chunked before size count) = false

pub data Plan : Type 0 where
  no : ℕ → Plan
  go : Way → Plan

-- 1 to 7 in order, for a store of n bytes; what 6 refuses goes its way, which may flush
module _ (n : ℕ) (a : Sending) (q : Queue) where
  abbrev way : Way
  way = way_of q.settings a.message q.out.batch

  unfoldable pub plan : Plan
  plan =
      pick q.settings.switches.closed (no 1)
      (pick (not (message_in n a.message a.message.payload)) (no 2)
      (pick (not (within_bounds a.message a.reserved)) (no 3)
      (pick (too_many (pushes way) q) (no 4)
      (pick (joins way && leb held_size (length q.out.held)) (no 5)
      (pick (is_too_large way) (go way)
      (pick (leb pending_size (length q.pending)) (no 7)
      (go way)))))))

-- ── the send ──

-- the pending entry of an accepted send, under the id that it takes
abbrev pub entry : Sending → ℤ → Replay → Queue → OpSend
entry a num_messages r q =
    record {
      sequence_id = q.ids.next_sequence_id;
      answerable = true;
      publish = record {
        num_messages = num_messages;
        enqueued_at = a.now;
        reservation = record { bytes = a.reserved };
        publish_time = a.publish_time;
        producer_name = q.settings.name;
        uuid = a.uuid;
        message = a.message;
        replay = r;
      };
    }

-- the frame record of an entry, and what it pushes
abbrev pub record_of : OpSend → FrameKind → FrameRecord
record_of op k =
    record {
      sequence_id = op.sequence_id;
      publish_time = op.publish.publish_time;
      producer_name = op.publish.producer_name;
      uuid = op.publish.uuid;
      message = op.publish.message;
      kind = k;
    }

-- an entry more, a new id, and then what goes out and is counted
abbrev pub accept : OpSend → Queue → Queue
accept op q =
    record {
      handle = q.handle;
      settings = q.settings;
      ids = assigned q.ids;
      counters = q.counters;
      pending = onto pending_size q.pending op;
      out = q.out;
    }

abbrev pub emit : FrameRecord → ℕ → ℕ → ℕ → Queue → Queue
emit r frames messages bytes q =
    record {
      handle = q.handle;
      settings = q.settings;
      ids = q.ids;
      counters = counted messages bytes q.counters;
      pending = q.pending;
      out = push r frames q.out;
    }

-- a message joins the open batch
unfoldable pub add_to_batch : Sending → Queue → Queue
add_to_batch a q =
    let o = q.out in
    with_out
    (record {
      frames = o.frames;
      waiting = o.waiting;
      held = onto held_size o.held (single_of a.message);
      batch = grown a.message q.ids.next_sequence_id.0 a.now o.batch;
    })
    (accept (entry a (pos 1) replay.Batched q) q)

-- a single frame bears max(num_messages, 1)
unfoldable pub emit_single : Sending → Queue → Queue
emit_single a q =
    let n = at_least_one a.message.num_messages in
    let op = entry a (pos n) replay.Single q in
    emit (record_of op kind.Single) 1 n a.message.payload.len (accept op q)

-- each chunk counts as one message, with its own bytes
unfoldable pub emit_chunked : Sending → ℕ → ℕ → Queue → Queue
emit_chunked a size count q =
    let op = entry a (pos 1) (replay.Chunked count size) q in
    emit
    (record_of op (kind.Chunked (record { total_chunks = count; next_chunk = 0; max_chunk_size = size })))
    count
    count
    (min a.message.payload.len (count * size))
    (accept op q)

abbrev pub flush_if : Bool → ℕ → Queue → Queue
flush_if flush publish_time q = pick flush (flushed publish_time q) q

unfoldable pub follow : Sending → Way → Queue → Queue
follow a (TooLarge before) q = flush_if before a.publish_time q
follow a (Join before after) q = flush_if after a.publish_time (add_to_batch a (flush_if before a.publish_time q))
follow a (Single before) q = emit_single a (flush_if before a.publish_time q)
follow a (Chunked before size count) q = emit_chunked a size count (flush_if before a.publish_time q)

-- `Emit` counts the frames of the message itself
pub data Decision : Type 0 where
  emitted : ℕ → Decision
  batched : Decision

-- 6 answers both numbers
abbrev pub answer_of : Sending → Queue → Way → Answer Decision
answer_of a q (TooLarge before) = refused 6 (a.message.payload.len ∷ q.settings.limits.max_message_size ∷ [])
answer_of a q (Join before after) = done batched
answer_of a q (Single before) = done (emitted 1)
answer_of a q (Chunked before size count) = done (emitted count)

abbrev pub carried_out : Sending → Queue → Plan → Outcome Decision
carried_out a q (no k) = refuse k q
carried_out a q (go w) = (follow a w q, answer_of a q w)

-- `queue_send_reserved` with a store of n bytes; `queue_send` is the same with nothing reserved
unfoldable pub queue_send : ℕ → Sending → Queue → Outcome Decision
queue_send n a q = carried_out a q (plan n a q)
