-- The front frame as it goes out. The contract of a take cites `frame_out` (`OwnParts` of crate `producer`); the rest mirrors the code, and
-- what the frame says is in crate `queue`.
use Rattle.std.specs.Prelude.{ℕ, ◌^◌, Bool, true, List, ltb, eqb, None, Option, Some}
use Rattle.laws.specs.Choice.{pick}
use Rattle.types.specs.Values.{clipped}
use Rattle.wire.specs.Uuid.{uuid_text}
use Rattle.queue.specs.Batch.{at_least_one}
use Rattle.types.specs.declared.frame.BatchFrame.{BatchFrame}
use Rattle.types.specs.declared.frame.ChunkedMessageContext.{ChunkedMessageContext}
use Rattle.types.specs.declared.frame.FrameRecord.{FrameRecord}
use Rattle.types.specs.declared.frame.FrameKind.{FrameKind}
use Rattle.types.specs.declared.frame.FrameKind.TheVariants.{Single, Batch, Chunked}
use Rattle.types.specs.declared.frame.ProducerName.{ProducerName}
use Rattle.types.specs.declared.message.Part.{Part}
use Rattle.types.specs.declared.outbound.FrameName.{FrameName}
use Rattle.types.specs.declared.outbound.FrameName.TheVariants.{Own, Producer}
use Rattle.types.specs.declared.types.ProducerHandle.{ProducerHandle}
use Rattle.types.specs.declared.types.SequenceId.{SequenceId}
use Rattle.types.specs.declared.outbound.OutboundFrame.{OutboundFrame}

-- the message's own name, and the producer's when that is empty
abbrev pub name_out : Part → ProducerName → FrameName
name_out own producer = pick (eqb own.len 0) (Producer (clipped producer)) (Own own)

abbrev pub present_if : {A : Type 0} → Bool → A → Option A
present_if there n = pick there (Some n) None

abbrev pub message_out : ProducerHandle → FrameRecord → ℕ → Option Bool → Option ℕ → Option ℕ → Option ℕ → Option ℕ → Option (List ℕ) → ℕ → OutboundFrame
message_out handle r num_messages is_chunk size chunk_id num_chunks totalSize uuid len =
    let m = r.message in
    record {
      command = record {
        producer_id = handle;
        sequence_id = r.sequence_id;
        num_messages = num_messages;
        txn_id = m.txn_id;
        highest_sequence_id = None;
        is_chunk = is_chunk;
        message_id = m.source_message_id;
      };
      metadata = record {
        producer_name = name_out m.producer_name r.producer_name;
        sequence_id = r.sequence_id;
        publish_time = r.publish_time;
        partition_key = m.partition_key;
        ordering_key = m.ordering_key;
        schema_version = m.schema_version;
        event_time = m.event_time;
        null_value = m.null_value;
        null_partition_key = m.null_partition_key;
        deliver_at_time = m.deliver_at_time;
        compression = m.compression;
        uncompressed_size = size;
        txn_id = m.txn_id;
        highest_sequence_id = None;
        num_messages_in_batch = None;
        chunk_id = chunk_id;
        num_chunks_from_msg = num_chunks;
        total_chunk_msg_size = totalSize;
        uuid = uuid;
      };
      payload_len = len;
    }

abbrev pub single_out : ProducerHandle → FrameRecord → ℕ → OutboundFrame
single_out handle r len =
    let size = r.message.uncompressed_size in
    message_out handle r (at_least_one r.message.num_messages) None (present_if (ltb 0 size) size) None None None None len

abbrev pub chunk_out : ProducerHandle → FrameRecord → ChunkedMessageContext → ℕ → OutboundFrame
chunk_out handle r c len =
    message_out handle r 1 (Some true) (Some r.message.uncompressed_size) (Some c.next_chunk)
    (Some c.total_chunks) (Some r.message.payload.len) (Some (uuid_text r.uuid)) len

abbrev pub batch_frame_out : ProducerHandle → FrameRecord → BatchFrame → Option SequenceId → Option ℕ → ℕ → OutboundFrame
batch_frame_out handle r b highest size len =
    record {
      command = record {
        producer_id = handle;
        sequence_id = r.sequence_id;
        num_messages = b.num_messages;
        txn_id = b.txn_id;
        highest_sequence_id = highest;
        is_chunk = None;
        message_id = None;
      };
      metadata = record {
        producer_name = Producer (clipped r.producer_name);
        sequence_id = r.sequence_id;
        publish_time = r.publish_time;
        partition_key = None;
        ordering_key = None;
        schema_version = None;
        event_time = None;
        null_value = None;
        null_partition_key = None;
        deliver_at_time = None;
        compression = None;
        uncompressed_size = size;
        txn_id = b.txn_id;
        highest_sequence_id = highest;
        num_messages_in_batch = Some b.num_messages;
        chunk_id = None;
        num_chunks_from_msg = None;
        total_chunk_msg_size = None;
        uuid = None;
      };
      payload_len = len;
    }

abbrev pub batch_out : ProducerHandle → FrameRecord → BatchFrame → ℕ → OutboundFrame
batch_out handle r b len =
    let high = b.highest_sequence_id in
    let size = b.current_size_bytes in
    batch_frame_out handle r b (present_if (ltb r.sequence_id.0 high.0) high) (present_if (ltb size (2 ^ 32)) size) len

abbrev pub frame_out : ProducerHandle → FrameRecord → FrameKind → ℕ → OutboundFrame
frame_out handle r Single len = single_out handle r len
frame_out handle r (Batch b) len = batch_out handle r b len
frame_out handle r (Chunked c) len = chunk_out handle r c len
