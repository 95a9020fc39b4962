-- SingleMessageMetadata of PulsarApi.proto, with the fields that document 01 names ('producer.rs: batch').
use Rattle.std.specs.Prelude.{ℕ, List, ◌++◌, Bool, pos, Option}
use Rattle.wire.specs.Proto.{optional, bytes_field, int32_field, varint_field, bool_field}

-- what it holds; absent differs from empty and from false
pub record SingleMetadata : Type 0 where
  pub partition_key : Option (List ℕ)
  pub payload_size : ℕ
  pub event_time : Option ℕ
  pub ordering_key : Option (List ℕ)
  pub null_value : Option Bool
  pub null_partition_key : Option Bool

-- its bytes: the fields in tag order, absent ones left out, the size always there
unfoldable pub single : SingleMetadata → List ℕ
single m =
    optional (bytes_field 2) m.partition_key
    ++ int32_field 3 (pos m.payload_size)
    ++ optional (varint_field 5) m.event_time
    ++ optional (bytes_field 7) m.ordering_key
    ++ optional (bool_field 9) m.null_value
    ++ optional (bool_field 10) m.null_partition_key
