-- What demand 3 compares of a message: document 01, 'How demand 3 is read'. Parts are the store's bytes, and absent differs from empty or false.
use Rattle.std.specs.Prelude.{ℕ, Bool, List, Option}
use Rattle.types.specs.Values.{part_of, bytes_of}
use Rattle.types.specs.declared.message.OutgoingMessage.{OutgoingMessage}
use Rattle.types.specs.declared.txn.TxnId.{TxnId}

pub record Message : Type 0 where
  pub payload : List ℕ
  pub partition_key : Option (List ℕ)
  pub ordering_key : Option (List ℕ)
  pub event_time : Option ℕ
  pub null_value : Option Bool
  pub null_partition_key : Option Bool
  pub txn : Option TxnId

-- a message that is sent
abbrev pub message_of : List ℕ → OutgoingMessage → Message
message_of store m =
    record {
      payload = part_of store m.payload;
      partition_key = bytes_of store m.partition_key;
      ordering_key = bytes_of store m.ordering_key;
      event_time = m.event_time;
      null_value = m.null_value;
      null_partition_key = m.null_partition_key;
      txn = m.txn_id;
    }
