-- What a slot holds before its first use.
use Rattle.std.specs.Prelude.{pos, false}
use Rattle.types.specs.Empty.{empty_name}
use Rattle.types.specs.declared.entry.OpSend.{OpSend}
use Rattle.types.specs.declared.entry.Publish.{Publish}
use Rattle.types.specs.declared.entry.Replay.TheVariants.{Batched}
use Rattle.types.specs.declared.frame.FrameKind.TheVariants.{Single}
use Rattle.types.specs.declared.frame.FrameRecord.{FrameRecord}
use Rattle.queue.specs.Batch.{no_message, no_uuid}

abbrev pub no_publish : Publish
no_publish =
    record {
      num_messages = pos 0;
      enqueued_at = 0;
      reservation = record { bytes = 0 };
      publish_time = 0;
      producer_name = empty_name;
      uuid = no_uuid;
      message = no_message;
      replay = Batched;
    }

abbrev pub no_entry : OpSend
no_entry = record { sequence_id = record { 0 = 0 }; answerable = false; publish = no_publish }

abbrev pub no_frame : FrameRecord
no_frame =
    record {
      sequence_id = record { 0 = 0 };
      publish_time = 0;
      producer_name = empty_name;
      uuid = no_uuid;
      message = no_message;
      kind = Single;
    }
