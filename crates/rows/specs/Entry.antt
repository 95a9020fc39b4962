-- The pending entries that rows stand for.
use Rattle.std.specs.Prelude.{◌==◌}
use Rattle.laws.specs.Choice.{pick}
use Rattle.types.specs.declared.entry.Replay.{Replay}
use Rattle.types.specs.declared.entry.Replay.TheVariants.{Batched, Single, Chunked}
use Rattle.types.specs.declared.entry.Publish.{Publish}
use Rattle.types.specs.declared.entry.OpSend.{OpSend}
use Rattle.rows.specs.Message.{decode_message}
use Rattle.rows.specs.Optional.{decode_mark}
use Rattle.rows.specs.declared.entry.ReplayRow.{ReplayRow}
use Rattle.rows.specs.declared.entry.PublishRow.{PublishRow}
use Rattle.rows.specs.declared.entry.OpSendRow.{OpSendRow}

-- 0 batched, 1 single, anything else chunked
abbrev pub decode_replay : ReplayRow → Replay
decode_replay r = pick (r.kind == 0) Batched (pick (r.kind == 1) Single (Chunked r.total_chunks r.max_chunk_size))

abbrev pub decode_publish : PublishRow → Publish
decode_publish p =
    record {
      num_messages = p.num_messages;
      enqueued_at = p.enqueued_at;
      reservation = p.reservation;
      publish_time = p.publish_time;
      producer_name = p.producer_name;
      uuid = p.uuid;
      message = decode_message p.message;
      replay = decode_replay p.replay;
    }

abbrev pub decode_entry : OpSendRow → OpSend
decode_entry r = record { sequence_id = r.sequence_id; answerable = decode_mark r.answerable; publish = decode_publish r.publish }
