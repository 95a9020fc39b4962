-- A message of a batch with the start of the store as its payload.
use Rattle.std.specs.Prelude.{ℕ, None, Option}
use Rattle.types.specs.declared.message.SingleMessage.{SingleMessage}
use Rattle.types.specs.declared.message.Part.{Part}

abbrev pub message_of : ℕ → Option Part → Option ℕ → SingleMessage
message_of len key time =
    record {
      payload = record { start = 0; len = len };
      partition_key = key;
      ordering_key = None;
      event_time = time;
      null_value = None;
      null_partition_key = None;
    }
