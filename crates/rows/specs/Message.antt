-- The messages that rows stand for.
use Rattle.types.specs.declared.message.OutgoingMessage.{OutgoingMessage}
use Rattle.types.specs.declared.message.SingleMessage.{SingleMessage}
use Rattle.rows.specs.Optional.{decode_part, decode_u64, decode_i64, decode_i32, decode_bool, decode_txn, decode_message_id}
use Rattle.rows.specs.declared.message.MessageRow.{MessageRow}
use Rattle.rows.specs.declared.message.SingleRow.{SingleRow}

abbrev pub decode_message : MessageRow → OutgoingMessage
decode_message r =
    record {
      payload = r.payload;
      partition_key = decode_part r.partition_key;
      ordering_key = decode_part r.ordering_key;
      schema_version = decode_part r.schema_version;
      producer_name = r.producer_name;
      event_time = decode_u64 r.event_time;
      null_value = decode_bool r.null_value;
      null_partition_key = decode_bool r.null_partition_key;
      deliver_at_time = decode_i64 r.deliver_at_time;
      compression = decode_i32 r.compression;
      uncompressed_size = r.uncompressed_size;
      num_messages = r.num_messages;
      txn_id = decode_txn r.txn_id;
      source_message_id = decode_message_id r.source_message_id;
    }

abbrev pub decode_single : SingleRow → SingleMessage
decode_single r =
    record {
      payload = r.payload;
      partition_key = decode_part r.partition_key;
      ordering_key = decode_part r.ordering_key;
      event_time = decode_u64 r.event_time;
      null_value = decode_bool r.null_value;
      null_partition_key = decode_bool r.null_partition_key;
    }
