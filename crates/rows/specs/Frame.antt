-- The frames that rows stand for.
use Rattle.std.specs.Prelude.{◌==◌}
use Rattle.laws.specs.Choice.{pick}
use Rattle.types.specs.declared.frame.FrameKind.{FrameKind}
use Rattle.types.specs.declared.frame.FrameKind.TheVariants.{Single, Batch, Chunked}
use Rattle.types.specs.declared.frame.FrameRecord.{FrameRecord}
use Rattle.rows.specs.Message.{decode_message}
use Rattle.rows.specs.Optional.{decode_txn}
use Rattle.rows.specs.declared.frame.KindRow.{KindRow}
use Rattle.rows.specs.declared.frame.FrameRow.{FrameRow}

abbrev pub decode_batch : KindRow → FrameKind
decode_batch k =
    Batch
    (record {
      num_messages = k.num_messages;
      current_size_bytes = k.current_size_bytes;
      highest_sequence_id = k.highest_sequence_id;
      txn_id = decode_txn k.txn_id;
    })

abbrev pub decode_chunked : KindRow → FrameKind
decode_chunked k = Chunked (record { total_chunks = k.total_chunks; next_chunk = k.next_chunk; max_chunk_size = k.max_chunk_size })

-- 0 a single message, 1 a batch, anything else chunks
abbrev pub decode_kind : KindRow → FrameKind
decode_kind k = pick (k.kind == 0) Single (pick (k.kind == 1) (decode_batch k) (decode_chunked k))

abbrev pub decode_frame : FrameRow → FrameRecord
decode_frame r =
    record {
      sequence_id = r.sequence_id;
      publish_time = r.publish_time;
      producer_name = r.producer_name;
      uuid = r.uuid;
      message = decode_message r.message;
      kind = decode_kind r.kind;
    }
