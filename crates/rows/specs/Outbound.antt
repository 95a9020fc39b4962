-- The frames handed out that rows stand for.
use Rattle.std.specs.Prelude.{Option, Some, None}
use Rattle.types.specs.declared.frame.ProducerName.{ProducerName}
use Rattle.types.specs.declared.message.Part.{Part}
use Rattle.types.specs.declared.outbound.CommandSend.{CommandSend}
use Rattle.types.specs.declared.outbound.FrameName.{FrameName}
use Rattle.types.specs.declared.outbound.FrameName.TheVariants.{Own, Producer}
use Rattle.types.specs.declared.outbound.MessageMetadata.{MessageMetadata}
use Rattle.types.specs.declared.outbound.OutboundFrame.{OutboundFrame}
use Rattle.rows.specs.Optional.{decode_part, decode_u64, decode_i64, decode_i32, decode_bool, decode_txn, decode_message_id, decode_sequence_id, decode_uuid}
use Rattle.rows.specs.declared.outbound.CommandRow.{CommandRow}
use Rattle.rows.specs.declared.outbound.NameRow.{NameRow}
use Rattle.rows.specs.declared.outbound.MetadataRow.{MetadataRow}
use Rattle.rows.specs.declared.outbound.OutboundRow.{OutboundRow}

abbrev pub decode_command : CommandRow → CommandSend
decode_command c =
    record {
      producer_id = c.producer_id;
      sequence_id = c.sequence_id;
      num_messages = c.num_messages;
      txn_id = decode_txn c.txn_id;
      highest_sequence_id = decode_sequence_id c.highest_sequence_id;
      is_chunk = decode_bool c.is_chunk;
      message_id = decode_message_id c.message_id;
    }

-- the message's own name, where there is one, else the producer's
abbrev pub own_or : ProducerName → Option Part → FrameName
own_or producer None = Producer producer
own_or producer (Some part) = Own part

abbrev pub decode_name : NameRow → FrameName
decode_name n = own_or n.producer (decode_part n.own)

abbrev pub decode_metadata : MetadataRow → MessageMetadata
decode_metadata m =
    record {
      producer_name = decode_name m.producer_name;
      sequence_id = m.sequence_id;
      publish_time = m.publish_time;
      partition_key = decode_part m.partition_key;
      ordering_key = decode_part m.ordering_key;
      schema_version = decode_part m.schema_version;
      event_time = decode_u64 m.event_time;
      null_value = decode_bool m.null_value;
      null_partition_key = decode_bool m.null_partition_key;
      deliver_at_time = decode_i64 m.deliver_at_time;
      compression = decode_i32 m.compression;
      uncompressed_size = decode_u64 m.uncompressed_size;
      txn_id = decode_txn m.txn_id;
      highest_sequence_id = decode_sequence_id m.highest_sequence_id;
      num_messages_in_batch = decode_u64 m.num_messages_in_batch;
      chunk_id = decode_u64 m.chunk_id;
      num_chunks_from_msg = decode_u64 m.num_chunks_from_msg;
      total_chunk_msg_size = decode_u64 m.total_chunk_msg_size;
      uuid = decode_uuid m.uuid;
    }

abbrev pub decode_outbound : OutboundRow → OutboundFrame
decode_outbound f = record { command = decode_command f.command; metadata = decode_metadata f.metadata; payload_len = f.payload_len }
