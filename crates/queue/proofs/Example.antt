-- A run computed by the definitions: a single message, a batch of three with a transaction, and a message in three chunks, read back.
use Rattle.std.specs.Prelude.{Bool, None, Option, Some, ℕ}
use Prim.Native.Nat.{ℕ}
use mathlib.Core.Path.{◌≡◌, refl}
use mathlib.Core.Bool.{Bool, true, false}
use mathlib.Core.List.{List, [], ◌∷◌, ◌++◌, map}
use native.Mathlib.Omega.{arith}
use lib.ListN.{replicate}
use lib.IntN.{pos}
use Rattle.types.specs.declared.message.OutgoingMessage.{OutgoingMessage}
use Rattle.types.specs.declared.settings.Setting.TheVariants.{MaxMessageSize, MaxMessagesInBatch, BatchingEnabled, ChunkingEnabled}
use Rattle.types.specs.declared.txn.TxnId.{TxnId}
use Rattle.wire.specs.Proto.{varint_by, varint, key, varint_field, bytes_field, be32}
use Rattle.wire.specs.Single.{single}
use Rattle.wire.specs.Batch.{item, items}
use Rattle.wire.specs.Read.{read_varint, read_below, read_count, read_bytes, after_key, read_fields, read_single, read_be32, read_item, read_items}
use Rattle.queue.specs.Queue.{Queue, new_queue}
use Rattle.queue.specs.Settings as settings
use Rattle.queue.specs.Batch.{can_add_to_batch, flushed}
use Rattle.queue.specs.Send.{flushes_before, plan, follow, add_to_batch, emit_single, emit_chunked, queue_send}
use Rattle.queue.specs.Frame.{Frame}
use Rattle.queue.specs.Take.{next_outbound_frame}
use Rattle.queue.specs.Message.{Message}
use Rattle.queue.specs.Read.{read_frame, read_from, read}
use Rattle.queue.specs.Run.{Call, send, take, set, after, taken, accepted, Waiting, none_waits, one_waits}
use Rattle.queue.specs.Order.{Premises}
use Rattle.types.specs.declared.message.Part.{Part}

-- 'quotekeyab'
abbrev store : List ℕ
store = 0x71 ∷ 0x75 ∷ 0x6f ∷ 0x74 ∷ 0x65 ∷ 0x6b ∷ 0x65 ∷ 0x79 ∷ 0x61 ∷ 0x62 ∷ []

abbrev message : ℕ → ℕ → Option Part → Option ℕ → Option Bool → Option TxnId → OutgoingMessage
message start len partition_key event_time null_value txn =
    record {
      payload = record { start = start; len = len };
      partition_key = partition_key;
      ordering_key = None;
      schema_version = None;
      producer_name = record { start = 0; len = 0 };
      event_time = event_time;
      null_value = null_value;
      null_partition_key = None;
      deliver_at_time = None;
      compression = None;
      uncompressed_size = 0;
      num_messages = pos 1;
      txn_id = txn;
      source_message_id = None;
    }

abbrev sending : OutgoingMessage → Call
sending m = send (record { message = m; reserved = 0; uuid = replicate 16 0; publish_time = 7; now = 7 })

abbrev one_two : TxnId
one_two = record { most_sig_bits = 1; least_sig_bits = 2 }

abbrev in_txn : Option TxnId
in_txn = Some one_two

-- the third message fills the batch, which its send flushes; the chunks are 2, 2 and 1 bytes long, and two of them wait at the end
abbrev calls : List Call
calls =
    sending (message 0 5 (Some (record { start = 5; len = 3 })) (Some 300) None None)
    ∷ set (BatchingEnabled true)
    ∷ set (MaxMessagesInBatch 3)
    ∷ sending (message 8 1 (Some (record { start = 8; len = 0 })) None None in_txn)
    ∷ sending (message 9 1 None (Some 128) None in_txn)
    ∷ take 3
    ∷ take 5
    ∷ sending (message 5 3 None None (Some false) in_txn)
    ∷ set (BatchingEnabled false)
    ∷ set (ChunkingEnabled true)
    ∷ set (MaxMessageSize 2)
    ∷ sending (message 0 5 None None None None)
    ∷ take 64
    ∷ take 64
    ∷ []

abbrev start : Queue
start = new_queue (record { 0 = 3 })

abbrev payloads : List Frame → List (List ℕ)
payloads fs = map (λ f. f.payload) fs

payloads_taken : payloads (taken store start calls)
    ≡ (0x71 ∷ 0x75 ∷ 0x6f ∷ 0x74 ∷ 0x65 ∷ [])
    ∷ (0 ∷ 0 ∷ 0 ∷ 4 ∷ 0x12 ∷ 0 ∷ 0x18 ∷ 1 ∷ 0x61 ∷ 0 ∷ 0 ∷ 0 ∷ 5 ∷ 0x18 ∷ 1 ∷ 0x28 ∷ 0x80 ∷ 1 ∷ 0x62 ∷ 0 ∷ 0 ∷ 0 ∷ 4 ∷ 0x18 ∷ 3 ∷ 0x48 ∷ 0 ∷ 0x6b ∷ 0x65 ∷ 0x79 ∷ [])
    ∷ (0x71 ∷ 0x75 ∷ [])
    ∷ []
unfolding taken settings.set queue_send plan flushes_before can_add_to_batch follow flushed add_to_batch emit_single emit_chunked next_outbound_frame items item single varint_field bytes_field key varint varint_by be32
payloads_taken = refl

-- the two that wait, and then 10
abbrev waiting : List Frame
waiting = taken store (after store start calls) (take 2 ∷ take 1 ∷ [])

waits : Waiting store (after store start calls) waiting
unfolding after taken settings.set queue_send plan flushes_before can_add_to_batch follow flushed add_to_batch emit_single emit_chunked next_outbound_frame items item single varint_field bytes_field key varint varint_by be32
waits = one_waits 2 refl (one_waits 1 refl (none_waits 0 refl))

-- payload, partition key, event time, null value and transaction of a message that has no ordering key and no other mark
abbrev seen : List ℕ → Option (List ℕ) → Option ℕ → Option Bool → Option TxnId → Message
seen payload partition_key event_time null_value txn =
    record {
      payload = payload;
      partition_key = partition_key;
      ordering_key = None;
      event_time = event_time;
      null_value = null_value;
      null_partition_key = None;
      txn = txn;
    }

abbrev messages : List Message
messages =
    seen (0x71 ∷ 0x75 ∷ 0x6f ∷ 0x74 ∷ 0x65 ∷ []) (Some (0x6b ∷ 0x65 ∷ 0x79 ∷ [])) (Some 300) None None
    ∷ seen (0x61 ∷ []) (Some []) None None (Some one_two)
    ∷ seen (0x62 ∷ []) None (Some 128) None (Some one_two)
    ∷ seen (0x6b ∷ 0x65 ∷ 0x79 ∷ []) None None (Some false) (Some one_two)
    ∷ seen (0x71 ∷ 0x75 ∷ 0x6f ∷ 0x74 ∷ 0x65 ∷ []) None None None None
    ∷ []

messages_accepted : accepted store start calls ≡ messages
unfolding accepted settings.set queue_send plan flushes_before can_add_to_batch follow flushed add_to_batch emit_single emit_chunked next_outbound_frame items item single varint_field bytes_field key varint varint_by be32
messages_accepted = refl

messages_read : read (taken store start calls ++ waiting) ≡ Some messages
unfolding after taken settings.set queue_send plan flushes_before can_add_to_batch follow flushed add_to_batch emit_single emit_chunked next_outbound_frame items item single varint_field bytes_field key varint varint_by be32 read read_from read_frame read_items read_item read_be32 read_count read_single read_fields read_bytes read_below after_key read_varint
messages_read = refl

-- the run meets the premises of the order rule
premises : Premises store (record { 0 = 3 }) calls
unfolding after settings.set queue_send plan flushes_before can_add_to_batch follow flushed add_to_batch emit_single emit_chunked next_outbound_frame items item single varint_field bytes_field key varint varint_by be32
premises =
    record {
      covered = (omega arith, (tt, (tt, (omega arith, (omega arith, (tt, (tt, (omega arith, (tt, (tt, (tt, (omega arith, (tt, (tt, tt))))))))))))));
      emptied = refl;
      ranged = (omega arith, (tt, (tt, (tt, (omega arith, (tt, (tt, (tt, (tt, (tt, (tt, (tt, (tt, (tt, tt))))))))))))));
    }
