-- Document 01, 'batch': joining, the frame of a batch, and the flush.
use Rattle.std.specs.Prelude.{ℕ, zero, suc, ◌+◌, max, Bool, true, false, not, ◌&&◌, ◌||◌, List, replicate, leb, ltb, eqb, ℤ, pos, negsuc, None, Option, Some}
use Rattle.laws.specs.Choice.{pick}
use Rattle.laws.specs.Lists.{onto}
use Rattle.laws.specs.Numbers.{add_sat}
use Rattle.wire.specs.Length.{item_length}
use Rattle.types.specs.Empty.{empty_batch}
use Rattle.types.specs.declared.batch.BatchContainer.{BatchContainer}
use Rattle.types.specs.declared.frame.FrameRecord.{FrameRecord}
use Rattle.types.specs.declared.frame.FrameKind.TheVariants as kind
use Rattle.types.specs.declared.message.Part.{Part}
use Rattle.types.specs.declared.message.OutgoingMessage.{OutgoingMessage}
use Rattle.types.specs.declared.message.SingleMessage.{SingleMessage}
use Rattle.types.specs.declared.settings.ProducerSettings.{ProducerSettings}
use Rattle.types.specs.declared.stats.Counters.{Counters}
use Rattle.queue.specs.Sizes.{outbound_size}
use Rattle.queue.specs.Queue.{Queue, Outgoing, Outcome, done, refuse}
use Rattle.types.specs.declared.types.MessageId.{MessageId}
use Rattle.types.specs.declared.txn.TxnId.{TxnId}

-- ── joining ──

-- max(num_messages, 1)
abbrev pub at_least_one : ℤ → ℕ
at_least_one (pos n) = max n 1
at_least_one (negsuc n) = 1

-- batching is on, the producer is open, and with the message neither the count nor the sum of payloads passes its limit
unfoldable pub can_add_to_batch : ProducerSettings → BatchContainer → ℕ → ℤ → Bool
can_add_to_batch t b size num_messages =
    t.switches.batching_enabled && not t.switches.closed
    && leb (add_sat b.len (at_least_one num_messages)) t.limits.max_messages_in_batch
    && leb (add_sat b.current_size_bytes size) t.limits.max_batch_size_bytes

abbrev pub no_source : Option MessageId → Bool
no_source None = true
no_source (Some id) = false

-- no compression code, or code 0
abbrev pub plain : Option ℤ → Bool
plain None = true
plain (Some (pos zero)) = true
plain (Some (pos (suc n))) = false
plain (Some (negsuc n)) = false

-- not with a source message id or a compression code other than 0
abbrev pub batchable : OutgoingMessage → Bool
batchable m = no_source m.source_message_id && plain m.compression

abbrev pub may_join : ProducerSettings → BatchContainer → OutgoingMessage → Bool
may_join t b m = batchable m && can_add_to_batch t b m.payload.len m.num_messages

abbrev pub is_empty : BatchContainer → Bool
is_empty b = eqb b.len 0

-- having no transaction differs from having one
abbrev pub same_txn : Option TxnId → Option TxnId → Bool
same_txn None None = true
same_txn None (Some t) = false
same_txn (Some t) None = false
same_txn (Some t) (Some u) =
    eqb t.most_sig_bits u.most_sig_bits && eqb t.least_sig_bits u.least_sig_bits

-- what a batch keeps of a message
abbrev pub single_of : OutgoingMessage → SingleMessage
single_of m =
    record {
      payload = m.payload;
      partition_key = m.partition_key;
      ordering_key = m.ordering_key;
      event_time = m.event_time;
      null_value = m.null_value;
      null_partition_key = m.null_partition_key;
    }

-- the batch with one message more, which counts as one; the first brings lowest id, time and transaction
abbrev pub grown : OutgoingMessage → ℕ → ℕ → BatchContainer → BatchContainer
grown m id now b =
    record {
      len = add_sat b.len 1;
      current_size_bytes = add_sat b.current_size_bytes m.payload.len;
      encoded_len = add_sat b.encoded_len (item_length (single_of m));
      lowest_sequence_id = pick (is_empty b) (record { 0 = id }) b.lowest_sequence_id;
      highest_sequence_id = record { 0 = id };
      first_added_at = pick (is_empty b) now b.first_added_at;
      txn_id = pick (is_empty b) m.txn_id b.txn_id;
    }

-- a count or a sum of payloads has reached its limit
abbrev pub is_full : ProducerSettings → ℕ → ℕ → Bool
is_full t count sum = leb t.limits.max_messages_in_batch count || leb t.limits.max_batch_size_bytes sum

-- ── the flush ──

-- where a record has no message or uuid of its own
abbrev pub no_part : Part
no_part = record { start = 0; len = 0 }

abbrev pub no_message : OutgoingMessage
no_message =
    record {
      payload = no_part;
      partition_key = None;
      ordering_key = None;
      schema_version = None;
      producer_name = no_part;
      event_time = None;
      null_value = None;
      null_partition_key = None;
      deliver_at_time = None;
      compression = None;
      uncompressed_size = 0;
      num_messages = pos 0;
      txn_id = None;
      source_message_id = None;
    }

abbrev pub no_uuid : List ℕ
no_uuid = replicate 16 0

-- the batch's frame: the producer's name as it is now, the publish time of the call that flushes
abbrev pub batch_record : ProducerSettings → ℕ → BatchContainer → FrameRecord
batch_record t publish_time b =
    record {
      sequence_id = b.lowest_sequence_id;
      publish_time = publish_time;
      producer_name = t.name;
      uuid = no_uuid;
      message = no_message;
      kind = kind.Batch (record {
        num_messages = b.len;
        current_size_bytes = b.current_size_bytes;
        highest_sequence_id = b.highest_sequence_id;
        txn_id = b.txn_id;
      });
    }

-- a record of n frames at the end
abbrev pub push : FrameRecord → ℕ → Outgoing → Outgoing
push r n o = record { frames = onto outbound_size o.frames r; waiting = add_sat o.waiting n; held = o.held; batch = o.batch }

-- messages and bytes of frames that are pushed
abbrev pub counted : ℕ → ℕ → Counters → Counters
counted messages bytes k =
    record {
      total_msgs_sent = add_sat k.total_msgs_sent messages;
      total_bytes_sent = add_sat k.total_bytes_sent bytes;
      total_send_failed = k.total_send_failed;
      total_acks_received = k.total_acks_received;
    }

abbrev pub with_batch : BatchContainer → Outgoing → Outgoing
with_batch b o = record { frames = o.frames; waiting = o.waiting; held = o.held; batch = b }

-- the open batch becomes a frame; its messages stay held
unfoldable pub flushed : ℕ → Queue → Queue
flushed publish_time q =
    let b = q.out.batch in
    record {
      handle = q.handle;
      settings = q.settings;
      ids = q.ids;
      counters = counted b.len b.encoded_len q.counters;
      pending = q.pending;
      out = with_batch empty_batch (push (batch_record q.settings publish_time b) 1 q.out);
    }

-- 4: waiting frames plus the frames this call pushes exceed 1,024
abbrev pub too_many : ℕ → Queue → Bool
too_many n q = ltb outbound_size (q.out.waiting + n)

-- an empty batch or a closed producer gives count 0; a flush that makes a frame is refused by 4 only
unfoldable pub flush_batch : ℕ → Queue → Outcome ℕ
flush_batch publish_time q =
    pick (is_empty q.out.batch) (q, done 0)
    (pick q.settings.switches.closed (q, done 0)
    (pick (too_many 1 q) (refuse 4 q) (flushed publish_time q, done 1)))
