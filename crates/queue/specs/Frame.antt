-- A frame: command, metadata with parts as bytes, and payload; and the frames of a waiting record (document 01, 'batch', 'sends').
use Rattle.std.specs.Prelude.{ℕ, ◌+◌, ◌-◌, ◌*◌, ◌^◌, min, Bool, true, ◌&&◌, List, [], ◌∷◌, take, ltb, eqb, ℤ, None, Option, Some}
use Rattle.laws.specs.Choice.{pick}
use Rattle.types.specs.Values.{part_of, bytes_of, name_of, part_in, maybe_in}
use Rattle.wire.specs.Batch.{batch_payload}
use Rattle.wire.specs.Uuid.{uuid_text}
use Rattle.types.specs.declared.frame.BatchFrame.{BatchFrame}
use Rattle.types.specs.declared.frame.ChunkedMessageContext.{ChunkedMessageContext}
use Rattle.types.specs.declared.frame.FrameRecord.{FrameRecord}
use Rattle.types.specs.declared.frame.FrameKind.{FrameKind}
use Rattle.types.specs.declared.frame.FrameKind.TheVariants.{Single, Batch, Chunked}
use Rattle.types.specs.declared.message.Part.{Part}
use Rattle.types.specs.declared.message.OutgoingMessage.{OutgoingMessage}
use Rattle.types.specs.declared.message.SingleMessage.{SingleMessage}
use Rattle.types.specs.declared.txn.TxnId.{TxnId}
use Rattle.types.specs.declared.types.MessageId.{MessageId}
use Rattle.types.specs.declared.types.ProducerHandle.{ProducerHandle}
use Rattle.types.specs.declared.types.SequenceId.{SequenceId}
use Rattle.queue.specs.Batch.{at_least_one}

-- `CommandSend`
pub record Command : Type 0 where
  pub producer_id : ProducerHandle
  pub sequence_id : SequenceId
  pub num_messages : ℕ
  pub txn : Option TxnId
  pub highest_sequence_id : Option SequenceId
  pub is_chunk : Option Bool
  pub message_id : Option MessageId

-- `MessageMetadata`
pub record Metadata : Type 0 where
  pub producer_name : List ℕ
  pub sequence_id : SequenceId
  pub publish_time : ℕ
  pub partition_key : Option (List ℕ)
  pub ordering_key : Option (List ℕ)
  pub schema_version : Option (List ℕ)
  pub event_time : Option ℕ
  pub null_value : Option Bool
  pub null_partition_key : Option Bool
  pub deliver_at_time : Option ℤ
  pub compression : Option ℤ
  pub uncompressed_size : Option ℕ
  pub txn : Option TxnId
  pub highest_sequence_id : Option SequenceId
  pub num_messages_in_batch : Option ℕ
  pub chunk_id : Option ℕ
  pub num_chunks : Option ℕ
  pub total_chunk_msg_size : Option ℕ
  pub uuid : Option (List ℕ)

pub record Frame : Type 0 where
  pub command : Command
  pub metadata : Metadata
  pub payload : List ℕ

-- the part of the payload that the next chunk carries
abbrev pub chunk_part : FrameRecord → ChunkedMessageContext → Part
chunk_part r c =
    let p = r.message.payload in
    let at = c.next_chunk * c.max_chunk_size in
    record { start = p.start + at; len = min c.max_chunk_size (p.len - at) }

-- a batch's highest id only if greater than the lowest
abbrev pub highest : SequenceId → SequenceId → Option SequenceId
highest low high = pick (ltb low.0 high.0) (Some high) None

module _ (store : List ℕ) (handle : ProducerHandle) (r : FrameRecord) where
  -- the message's name, and the producer's when that is empty
  abbrev pub frame_name : List ℕ
  frame_name =
      let own = r.message.producer_name in
      pick (eqb own.len 0) (name_of r.producer_name) (part_of store own)

  -- what a single frame and a chunk have alike: they differ in the command's count and mark, the size and the chunk fields
  abbrev pub message_frame : ℕ → Option Bool → Option ℕ → Option ℕ → Option ℕ → Option ℕ → Option (List ℕ) → List ℕ → Frame
  message_frame num_messages is_chunk uncompressed_size chunk_id num_chunks totalSize uuid payload =
      let m = r.message in
      record {
        command = record {
          producer_id = handle;
          sequence_id = r.sequence_id;
          num_messages = num_messages;
          txn = m.txn_id;
          highest_sequence_id = None;
          is_chunk = is_chunk;
          message_id = m.source_message_id;
        };
        metadata = record {
          producer_name = frame_name;
          sequence_id = r.sequence_id;
          publish_time = r.publish_time;
          partition_key = bytes_of store m.partition_key;
          ordering_key = bytes_of store m.ordering_key;
          schema_version = bytes_of store m.schema_version;
          event_time = m.event_time;
          null_value = m.null_value;
          null_partition_key = m.null_partition_key;
          deliver_at_time = m.deliver_at_time;
          compression = m.compression;
          uncompressed_size = uncompressed_size;
          txn = m.txn_id;
          highest_sequence_id = None;
          num_messages_in_batch = None;
          chunk_id = chunk_id;
          num_chunks = num_chunks;
          total_chunk_msg_size = totalSize;
          uuid = uuid;
        };
        payload = payload;
      }

  -- a single frame bears max(num_messages, 1) in its command only; its size is set only above 0
  abbrev pub single_frame : Frame
  single_frame =
      let m = r.message in
      let size = m.uncompressed_size in
      message_frame (at_least_one m.num_messages) None (pick (ltb 0 size) (Some size) None) None None None None (part_of store m.payload)

  -- a chunk bears 1 in its command only, and its size always
  abbrev pub chunk_frame : ChunkedMessageContext → Frame
  chunk_frame c =
      let m = r.message in
      message_frame 1 (Some true) (Some m.uncompressed_size)
      (Some c.next_chunk) (Some c.total_chunks) (Some m.payload.len) (Some (uuid_text r.uuid)) (part_of store (chunk_part r c))

  -- a batch frame, with its messages; its size is the sum of payload lengths without headers, where 32 bits hold it
  abbrev pub batch_frame : BatchFrame → List SingleMessage → Frame
  batch_frame b ms =
      let size = b.current_size_bytes in
      record {
        command = record {
          producer_id = handle;
          sequence_id = r.sequence_id;
          num_messages = b.num_messages;
          txn = b.txn_id;
          highest_sequence_id = highest r.sequence_id b.highest_sequence_id;
          is_chunk = None;
          message_id = None;
        };
        metadata = record {
          producer_name = name_of r.producer_name;
          sequence_id = r.sequence_id;
          publish_time = r.publish_time;
          partition_key = None;
          ordering_key = None;
          schema_version = None;
          event_time = None;
          null_value = None;
          null_partition_key = None;
          deliver_at_time = None;
          compression = None;
          uncompressed_size = pick (ltb size (2 ^ 32)) (Some size) None;
          txn = b.txn_id;
          highest_sequence_id = highest r.sequence_id b.highest_sequence_id;
          num_messages_in_batch = Some b.num_messages;
          chunk_id = None;
          num_chunks = None;
          total_chunk_msg_size = None;
          uuid = None;
        };
        payload = batch_payload store ms;
      }

  -- the first frame of the record; a batch frame's messages are the first of those held
  abbrev pub first_frame : FrameKind → List SingleMessage → Frame
  first_frame Single held = single_frame
  first_frame (Batch b) held = batch_frame b (take b.num_messages held)
  first_frame (Chunked c) held = chunk_frame c

-- ── 2 at a take: what the frame itself bears lies in a store of n bytes ──

abbrev pub single_in : ℕ → SingleMessage → Bool
single_in n m = part_in n m.payload && maybe_in n m.partition_key && maybe_in n m.ordering_key

abbrev pub all_in : ℕ → List SingleMessage → Bool
all_in n [] = true
all_in n (m ∷ ms) = single_in n m && all_in n ms

-- an empty message name is not borne: the producer's stands in its place
abbrev pub borne_in : ℕ → OutgoingMessage → Part → Bool
borne_in n m payload =
    part_in n payload && maybe_in n m.partition_key && maybe_in n m.ordering_key && maybe_in n m.schema_version
    && pick (eqb m.producer_name.len 0) true (part_in n m.producer_name)

abbrev pub frame_in : ℕ → FrameRecord → FrameKind → List SingleMessage → Bool
frame_in n r Single held = borne_in n r.message r.message.payload
frame_in n r (Batch b) held = all_in n (take b.num_messages held)
frame_in n r (Chunked c) held = borne_in n r.message (chunk_part r c)
