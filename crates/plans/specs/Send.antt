-- What the plans of a send answer. The definition goes by the queue, these by the scalars and the records that are stored.
use Rattle.std.specs.Prelude.{ℕ, ◌*◌, min, Bool, ℤ, pos, Err, Ok, Result, Option, None}
use Rattle.types.specs.declared.answer.SendDecision.TheVariants.{Emit, Batched}
use Rattle.types.specs.declared.answer.SendDecision.{SendDecision}
use Rattle.types.specs.declared.entry.OpSend.{OpSend}
use Rattle.types.specs.declared.entry.Publish.{Publish}
use Rattle.types.specs.declared.entry.Replay.{Replay}
use Rattle.types.specs.declared.entry.Replay.TheVariants as replay
use Rattle.types.specs.declared.error.ProducerError.{ProducerError}
use Rattle.types.specs.declared.error.ProducerError.TheVariants.{MessageTooLarge}
use Rattle.types.specs.declared.frame.FrameKind.{FrameKind}
use Rattle.types.specs.declared.frame.FrameKind.TheVariants as kind
use Rattle.types.specs.declared.frame.FrameRecord.{FrameRecord}
use Rattle.types.specs.declared.message.SingleMessage.{SingleMessage}
use Rattle.types.specs.declared.way.Way.{Way}
use Rattle.types.specs.declared.way.Way.TheVariants.{TooLarge, Join, Single, Chunked}
use Rattle.queue.specs.Batch.{at_least_one, grown, single_of, is_full}
use Rattle.plans.specs.declared.state.Core.{Core}
use Rattle.plans.specs.declared.delta.Put.{Put}
use Rattle.plans.specs.declared.delta.Pushed.{Pushed}
use Rattle.plans.specs.declared.send.Sending.{Sending}
use Rattle.plans.specs.Delta.{core_batch, counted_core, pushed, accepted, held}
use Rattle.plans.specs.Batch.{flushed_if}
use Rattle.plans.specs.Choose.{chosen}

-- ── what is stored ──

-- a message in a frame of its own
pub record Emitted : Type 0 where
  pub core : Core
  pub frame : Option (Put FrameRecord)
  pub entry : Option (Put OpSend)

-- a message in the open batch
pub record Joined : Type 0 where
  pub core : Core
  pub entry : Option (Put OpSend)
  pub held : Option (Put SingleMessage)

-- `first` is the batch that is flushed before; `second` is the message's own frame, or the batch that it filled
pub record SendDelta : Type 0 where
  pub answer : Result SendDecision ProducerError
  pub core : Core
  pub first : Option (Put FrameRecord)
  pub second : Option (Put FrameRecord)
  pub entry : Option (Put OpSend)
  pub held : Option (Put SingleMessage)

-- ── one message ──

abbrev pub publish_of : Sending → ℤ → Replay → Core → Publish
publish_of a num_messages r c =
    record {
      num_messages = num_messages;
      enqueued_at = a.now;
      reservation = a.reservation;
      publish_time = a.publish_time;
      producer_name = c.settings.name;
      uuid = a.uuid;
      message = a.message;
      replay = r;
    }

abbrev pub frame_of : ℕ → Publish → FrameKind → FrameRecord
frame_of id p k =
    record {
      sequence_id = record { 0 = id };
      publish_time = p.publish_time;
      producer_name = p.producer_name;
      uuid = p.uuid;
      message = p.message;
      kind = k;
    }

-- an entry, and its frames, which count as so many messages and bytes
abbrev pub emitted : Publish → FrameKind → ℕ → ℕ → ℕ → Core → Emitted
emitted p k frames messages bytes c =
    let e = accepted p c in
    let f = pushed (frame_of c.ids.next_sequence_id.0 p k) frames (counted_core messages bytes e.core) in
    record { core = f.core; frame = f.put; entry = e.put }

abbrev pub singled : Sending → Core → Emitted
singled a c =
    let n = at_least_one a.message.num_messages in
    emitted (publish_of a (pos n) replay.Single c) kind.Single 1 n a.message.payload.len c

abbrev pub joined : Sending → Core → Joined
joined a c =
    let e = accepted (publish_of a (pos 1) replay.Batched c) c in
    let h = held (single_of a.message) e.core in
    record {
      core = core_batch (grown a.message c.ids.next_sequence_id.0 a.now c.batch) h.core;
      entry = e.put;
      held = h.put;
    }

abbrev pub chunked : Sending → ℕ → ℕ → Core → Emitted
chunked a size count c =
    emitted (publish_of a (pos 1) (replay.Chunked count size) c)
    (kind.Chunked (record { total_chunks = count; next_chunk = 0; max_chunk_size = size }))
    count count (min a.message.payload.len (count * size)) c

-- ── after the flush before ──

abbrev pub refused_by : ProducerError → Core → SendDelta
refused_by e c = record { answer = Err e; core = c; first = None; second = None; entry = None; held = None }

abbrev pub refused_large : Bool → Sending → Core → SendDelta
refused_large before a c =
    let f = flushed_if before a.publish_time c in
    record {
      answer = Err (MessageTooLarge a.message.payload.len c.settings.limits.max_message_size);
      core = f.core;
      first = f.put;
      second = None;
      entry = None;
      held = None;
    }

-- the batch is flushed again where the message has filled it
abbrev pub flushed_full : ℕ → Core → Pushed FrameRecord
flushed_full publish_time c = flushed_if (is_full c.settings c.batch.len c.batch.current_size_bytes) publish_time c

abbrev pub joined_after : Bool → Sending → Core → SendDelta
joined_after before a c =
    let f = flushed_if before a.publish_time c in
    let j = joined a f.core in
    let g = flushed_full a.publish_time j.core in
    record { answer = Ok Batched; core = g.core; first = f.put; second = g.put; entry = j.entry; held = j.held }

abbrev pub emitted_after : Option (Put FrameRecord) → Emitted → ℕ → SendDelta
emitted_after first e count = record { answer = Ok (Emit count); core = e.core; first = first; second = e.frame; entry = e.entry; held = None }

abbrev pub singled_after : Bool → Sending → Core → SendDelta
singled_after before a c =
    let f = flushed_if before a.publish_time c in
    emitted_after f.put (singled a f.core) 1

abbrev pub chunked_after : Bool → Sending → ℕ → ℕ → Core → SendDelta
chunked_after before a size count c =
    let f = flushed_if before a.publish_time c in
    emitted_after f.put (chunked a size count f.core) count

unfoldable pub followed : Way → Sending → Core → SendDelta
followed (TooLarge before) a c = refused_large before a c
followed (Join before after) a c = joined_after before a c
followed (Single before) a c = singled_after before a c
followed (Chunked before size count) a c = chunked_after before a size count c

-- ── the plan ──

abbrev pub plan_out : Result Way ProducerError → Sending → Core → SendDelta
plan_out (Err e) a c = refused_by e c
plan_out (Ok w) a c = followed w a c

unfoldable pub planned : ℕ → Sending → Core → SendDelta
planned n a c = plan_out (chosen n a.message a.reservation.bytes c) a c
