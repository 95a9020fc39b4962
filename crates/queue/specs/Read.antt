-- Frames are read from the front, by the layouts only (document 01, 'How demand 3 is read').
use Rattle.std.specs.Prelude.{ℕ, zero, suc, ◌+◌, ◌&&◌, List, [], ◌∷◌, ◌++◌, map, eqb, None, Option, Some}
use Rattle.laws.specs.Choice.{pick}
use Rattle.wire.specs.Batch.{Item}
use Rattle.wire.specs.Read.{read_items}
use Rattle.types.specs.declared.txn.TxnId.{TxnId}
use Rattle.types.specs.declared.types.SequenceId.{SequenceId}
use Rattle.queue.specs.Frame.{Frame}
use Rattle.queue.specs.Message.{Message}

-- a message of a batch: the fields of its single metadata, and the frame's transaction
abbrev pub item_message : Option TxnId → Item → Message
item_message txn i =
    record {
      payload = i.payload;
      partition_key = i.partition_key;
      ordering_key = i.ordering_key;
      event_time = i.event_time;
      null_value = i.null_value;
      null_partition_key = i.null_partition_key;
      txn = txn;
    }

-- a message with a frame's metadata fields and payload
abbrev pub frame_message : Frame → Message
frame_message f =
    let d = f.metadata in
    record {
      payload = f.payload;
      partition_key = d.partition_key;
      ordering_key = d.ordering_key;
      event_time = d.event_time;
      null_value = d.null_value;
      null_partition_key = d.null_partition_key;
      txn = d.txn;
    }

-- the payloads joined
abbrev pub with_bytes : Message → List ℕ → Message
with_bytes m bytes =
    record {
      payload = m.payload ++ bytes;
      partition_key = m.partition_key;
      ordering_key = m.ordering_key;
      event_time = m.event_time;
      null_value = m.null_value;
      null_partition_key = m.null_partition_key;
      txn = m.txn;
    }

-- where the reader stands: between two messages, or inside a chunked one, of this sequence id and chunk count, with so many chunks read
pub data Place : Type 0 where
  between : Place
  inside : SequenceId → ℕ → ℕ → Message → Place

-- where it stands then, and the messages read; `none` has no reading
abbrev pub Reading : Type 0
Reading = Option (Place × List Message)

abbrev pub whole : Message → Reading
whole m = Some (between, m ∷ [])

abbrev pub batch_read : Option TxnId → Option (List Item) → Reading
batch_read txn None = None
batch_read txn (Some items) = Some (between, map (item_message txn) items)

-- k of n chunks are read: with the last one the message is whole
abbrev pub chunks_read : SequenceId → ℕ → ℕ → Message → Reading
chunks_read id n k m = pick (eqb k n) (whole m) (Some (inside id n k m, []))

-- a frame between two messages, by its message count, chunk id and chunk count:
-- a count, that many messages that fill the payload; chunk id 0 and a chunk count, the first of so many; neither, one message
abbrev pub begin : Frame → Option ℕ → Option ℕ → Option ℕ → Reading
begin f None None chunks = whole (frame_message f)
begin f (Some count) None chunks = batch_read f.metadata.txn (read_items count f.payload)
begin f None (Some zero) (Some n) = chunks_read f.metadata.sequence_id n 1 (frame_message f)
begin f None (Some zero) None = None
begin f None (Some (suc k)) chunks = None
begin f (Some count) (Some k) chunks = None

-- a frame inside a chunked message: no message count, the same sequence id and chunk count, and the next chunk id
abbrev pub go_on : SequenceId → ℕ → ℕ → Message → Frame → Option ℕ → Option ℕ → Option ℕ → Reading
go_on id n k m f None (Some j) (Some c) =
    pick (eqb f.metadata.sequence_id.0 id.0 && eqb c n && eqb j k) (chunks_read id n (k + 1) (with_bytes m f.payload)) None
go_on id n k m f None (Some j) None = None
go_on id n k m f None None chunks = None
go_on id n k m f (Some count) j chunks = None

unfoldable pub read_frame : Place → Frame → Reading
read_frame between f = begin f f.metadata.num_messages_in_batch f.metadata.chunk_id f.metadata.num_chunks
read_frame (inside id n k m) f = go_on id n k m f f.metadata.num_messages_in_batch f.metadata.chunk_id f.metadata.num_chunks

-- messages, and then those of a reading
abbrev pub before : List Message → Reading → Reading
before ms None = None
before ms (Some p) = Some (p.0, ms ++ p.1)

abbrev pub and_then : Reading → (Place → Reading) → Reading
and_then None more = None
and_then (Some p) more = before p.1 (more p.0)

unfoldable pub read_from : Place → List Frame → Reading
read_from at [] = Some (at, [])
read_from at (f ∷ fs) = and_then (read_frame at f) (λ at₂. read_from at₂ fs)

abbrev pub end_of : Place → List Message → Option (List Message)
end_of between ms = Some ms
end_of (inside id n k m) ms = None

abbrev pub ended : Reading → Option (List Message)
ended None = None
ended (Some p) = end_of p.0 p.1

-- the messages of a list of frames; a chunked message that breaks off has no reading
unfoldable pub read : List Frame → Option (List Message)
read fs = ended (read_from between fs)
