-- How long a message's bytes are, known without its store: a part's length is in the part.
use Rattle.std.specs.Prelude.{ℕ, ◌≡◌, ◌+◌, ◌-◌, ◌^◌, min, List, [], ◌∷◌, length, replicate, None, Option, Some}
use Rattle.types.specs.declared.message.SingleMessage.{SingleMessage}
use Rattle.wire.specs.Single.{SingleMetadata, single}
use Rattle.wire.specs.Batch.{item, item_of, metadata_of, InStore}
use Rattle.types.specs.declared.message.Part.{Part}

-- as many zeros as a part has bytes
abbrev pub zeros : Option Part → Option (List ℕ)
zeros None = None
zeros (Some p) = Some (replicate p.len 0)

abbrev pub blank_metadata : SingleMessage → SingleMetadata
blank_metadata m =
    record {
      partition_key = zeros m.partition_key;
      payload_size = m.payload.len;
      event_time = m.event_time;
      ordering_key = zeros m.ordering_key;
      null_value = m.null_value;
      null_partition_key = m.null_partition_key;
    }

-- a sum of bytes stops at 2^64 - 1 (document 01, 'producer.rs: receipts, errors, snapshot, replay')
abbrev pub stopped : ℕ → ℕ
stopped n = min n (2 ^ 64 - 1)

unfoldable pub single_length : SingleMessage → ℕ
single_length m = length (single (blank_metadata m))

unfoldable pub item_length : SingleMessage → ℕ
item_length m = 4 + single_length m + m.payload.len

-- of the payload of a batch
unfoldable pub batch_length : List SingleMessage → ℕ
batch_length [] = 0
batch_length (m ∷ ms) = item_length m + batch_length ms

-- document 02, K4: what is worked out from the fields is the length of the bytes, for every message whose parts lie in the store
abbrev pub LengthRule : Type 0
LengthRule =
    (store : List ℕ) (m : SingleMessage) → InStore (length store) m
    → (single_length m ≡ length (single (metadata_of store m))) × (item_length m ≡ length (item (item_of store m)))
