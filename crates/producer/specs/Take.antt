-- What the answer of a take says: its parts are the store's bytes, and its payload is the start of the buffer after the call.
use Rattle.std.specs.Prelude.{◌≡◌, ℕ, true, List, [], ◌∷◌, length, take, Err, Ok, Result}
use Rattle.types.specs.Values.{part_of, bytes_of, name_of}
use Rattle.types.specs.declared.outbound.CommandSend.{CommandSend}
use Rattle.types.specs.declared.outbound.MessageMetadata.{MessageMetadata}
use Rattle.types.specs.declared.outbound.FrameName.{FrameName}
use Rattle.types.specs.declared.outbound.FrameName.TheVariants.{Own, Producer}
use Rattle.types.specs.declared.outbound.OutboundFrame.{OutboundFrame}
use Rattle.types.specs.declared.frame.FrameRecord.{FrameRecord}
use Rattle.frames.specs.Outbound.{frame_out}
use Rattle.queue.specs.Queue.{Queue, Answer, done}
use Rattle.types.specs.declared.error.ProducerError.{ProducerError}
use Rattle.queue.specs.Frame.{Command, Metadata, Frame, first_frame, frame_in}
use Rattle.queue.specs.Told.{told_error}

-- the own name of a message, or its producer's
abbrev pub name_told : List ℕ → FrameName → List ℕ
name_told store (Own p) = part_of store p
name_told store (Producer n) = name_of n

abbrev pub command_told : CommandSend → Command
command_told c =
    record {
      producer_id = c.producer_id;
      sequence_id = c.sequence_id;
      num_messages = c.num_messages;
      txn = c.txn_id;
      highest_sequence_id = c.highest_sequence_id;
      is_chunk = c.is_chunk;
      message_id = c.message_id;
    }

abbrev pub metadata_told : List ℕ → MessageMetadata → Metadata
metadata_told store m =
    record {
      producer_name = name_told store m.producer_name;
      sequence_id = m.sequence_id;
      publish_time = m.publish_time;
      partition_key = bytes_of store m.partition_key;
      ordering_key = bytes_of store m.ordering_key;
      schema_version = bytes_of store m.schema_version;
      event_time = m.event_time;
      null_value = m.null_value;
      null_partition_key = m.null_partition_key;
      deliver_at_time = m.deliver_at_time;
      compression = m.compression;
      uncompressed_size = m.uncompressed_size;
      txn = m.txn_id;
      highest_sequence_id = m.highest_sequence_id;
      num_messages_in_batch = m.num_messages_in_batch;
      chunk_id = m.chunk_id;
      num_chunks = m.num_chunks_from_msg;
      total_chunk_msg_size = m.total_chunk_msg_size;
      uuid = m.uuid;
    }

abbrev pub frame_told : List ℕ → List ℕ → OutboundFrame → Frame
frame_told store buffer f =
    record { command = command_told f.command; metadata = metadata_told store f.metadata; payload = take f.payload_len buffer }

abbrev pub told_frame : List ℕ → List ℕ → Result OutboundFrame ProducerError → Answer Frame
told_frame store buffer (Ok f) = done (frame_told store buffer f)
told_frame store buffer (Err e) = told_error e

-- the very struct that is answered: of the front record, with its own parts, which lie in the store (2), its name with the length that it
-- has, and the length of its payload
abbrev pub OwnParts : List ℕ → Queue → List FrameRecord → Result OutboundFrame ProducerError → Type 0
OwnParts store q rs (Err e) = Unit {0}
OwnParts store q [] (Ok f) = ⊥
OwnParts store q (r ∷ rs) (Ok f) =
    (f ≡ frame_out q.handle r r.kind (length (first_frame store q.handle r r.kind q.out.held).payload))
    × (frame_in (length store) r r.kind q.out.held ≡ true)
