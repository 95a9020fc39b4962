-- The payload of a batch frame (document 01, 'producer.rs: batch').
use Rattle.std.specs.Prelude.{ℕ, ◌≤◌, ◌<◌, ◌^◌, ◌≡◌, List, [], ◌∷◌, ◌++◌, map, Bool, true, length, None, Option, Some, unwrap_or}
use Rattle.types.specs.Bounds.{longest_payload, longest_key}
use Rattle.types.specs.Values.{part_of, bytes_of, part_in, maybe_in}
use Rattle.types.specs.declared.message.SingleMessage.{SingleMessage}
use Rattle.wire.specs.Proto.{be32}
use Rattle.wire.specs.Single.{SingleMetadata, single}
use Rattle.types.specs.declared.message.Part.{Part}

-- one message of a batch, as values
pub record Item : Type 0 where
  pub payload : List ℕ
  pub partition_key : Option (List ℕ)
  pub ordering_key : Option (List ℕ)
  pub event_time : Option ℕ
  pub null_value : Option Bool
  pub null_partition_key : Option Bool

-- its single metadata, with the length of the payload
abbrev pub metadata : Item → SingleMetadata
metadata i =
    record {
      partition_key = i.partition_key;
      payload_size = length i.payload;
      event_time = i.event_time;
      ordering_key = i.ordering_key;
      null_value = i.null_value;
      null_partition_key = i.null_partition_key;
    }

-- 4 bytes big-endian length of its single metadata, that metadata, its payload
unfoldable pub item : Item → List ℕ
item i = be32 (length (single (metadata i))) ++ single (metadata i) ++ i.payload

-- the items one after the other
unfoldable pub items : List Item → List ℕ
items [] = []
items (i ∷ is) = item i ++ items is

-- a message whose parts are the store's bytes
abbrev pub item_of : List ℕ → SingleMessage → Item
item_of store m =
    record {
      payload = part_of store m.payload;
      partition_key = bytes_of store m.partition_key;
      ordering_key = bytes_of store m.ordering_key;
      event_time = m.event_time;
      null_value = m.null_value;
      null_partition_key = m.null_partition_key;
    }

abbrev pub metadata_of : List ℕ → SingleMessage → SingleMetadata
metadata_of store m = metadata (item_of store m)

-- the payload of a batch frame of these messages
abbrev pub batch_payload : List ℕ → List SingleMessage → List ℕ
batch_payload store ms = items (map (item_of store) ms)

-- ── what is asked of a message ──

-- each of a list
abbrev pub All : {A : Type 0} → (A → Type 0) → List A → Type 0
All P [] = Unit {0}
All P (x ∷ xs) = P x × All P xs

-- an absent part has no length
abbrev pub len_of : Option Part → ℕ
len_of None = 0
len_of (Some p) = p.len

-- an item within the bounds of refusal 3, with an event time of 64 bits; what is absent is in bounds
pub record Bounded (i : Item) : Type 0 where
  pub payload : length i.payload ≤ longest_payload
  pub partition_key : length (unwrap_or i.partition_key []) ≤ longest_key
  pub ordering_key : length (unwrap_or i.ordering_key []) ≤ longest_key
  pub event_time : unwrap_or i.event_time 0 < 2 ^ 64

-- the same of a message whose bytes are in a store
pub record WithinBounds (m : SingleMessage) : Type 0 where
  pub payload : m.payload.len ≤ longest_payload
  pub partition_key : len_of m.partition_key ≤ longest_key
  pub ordering_key : len_of m.ordering_key ≤ longest_key
  pub event_time : unwrap_or m.event_time 0 < 2 ^ 64

-- its parts lie in a store of n bytes (refusal 2)
pub record InStore (n : ℕ) (m : SingleMessage) : Type 0 where
  pub payload : part_in n m.payload ≡ true
  pub partition_key : maybe_in n m.partition_key ≡ true
  pub ordering_key : maybe_in n m.ordering_key ≡ true
