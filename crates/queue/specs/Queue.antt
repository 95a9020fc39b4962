-- The send queue of a producer over plain lists, a new one, and what a call answers.
use Rattle.std.specs.Prelude.{ℕ, false, List, [], negsuc, None}
use Rattle.types.specs.Bounds.{longest_batch}
use Rattle.types.specs.Empty.{empty_batch, empty_name}
use Rattle.types.specs.declared.types.ProducerHandle.{ProducerHandle}
use Rattle.types.specs.declared.settings.ProducerSettings.{ProducerSettings}
use Rattle.types.specs.declared.stats.SequenceIds.{SequenceIds}
use Rattle.types.specs.declared.stats.Counters.{Counters}
use Rattle.types.specs.declared.batch.BatchContainer.{BatchContainer}
use Rattle.types.specs.declared.frame.FrameRecord.{FrameRecord}
use Rattle.types.specs.declared.message.SingleMessage.{SingleMessage}
use Rattle.types.specs.declared.entry.OpSend.{OpSend}

-- what goes out
pub record Outgoing : Type 0 where
  -- the waiting frames; the waiting chunks of one message are one record
  pub frames : List FrameRecord
  -- their number, chunks counted singly
  pub waiting : ℕ
  -- the messages of the waiting batch frames in order, then those of the open batch
  pub held : List SingleMessage
  pub batch : BatchContainer

pub record Queue : Type 0 where
  pub handle : ProducerHandle
  pub settings : ProducerSettings
  pub ids : SequenceIds
  pub counters : Counters
  -- the pending entries, the oldest first
  pub pending : List OpSend
  pub out : Outgoing

-- ── a new producer ──

-- the Rust's defaults, but for the batch count of 128 (refusal 8); the headroom is the Rust's constant (document 02, K6)
abbrev pub new_settings : ProducerSettings
new_settings =
    record {
      name = empty_name;
      limits = record {
        max_message_size = 5242880;
        max_batch_size_bytes = 131072;
        max_messages_in_batch = longest_batch;
        metadata_reservation = 1024;
      };
      switches = record { batching_enabled = false; chunking_enabled = false; broker_ready = false; closed = false };
      delays = record { send_timeout = None; batching_max_publish_delay = None };
    }

abbrev pub empty_outgoing : Outgoing
empty_outgoing = record { frames = []; waiting = 0; held = []; batch = empty_batch }

-- next id 0, and -1 pushed and published (ids and clocks)
abbrev pub new_ids : SequenceIds
new_ids = record { next_sequence_id = record { 0 = 0 }; last_sequence_id_pushed = negsuc 0; last_sequence_id_published = negsuc 0 }

abbrev pub new_counters : Counters
new_counters = record { total_msgs_sent = 0; total_bytes_sent = 0; total_send_failed = 0; total_acks_received = 0 }

abbrev pub new_queue : ProducerHandle → Queue
new_queue handle =
    record {
      handle = handle;
      settings = new_settings;
      ids = new_ids;
      counters = new_counters;
      pending = [];
      out = empty_outgoing;
    }

-- ── the same queue with another part ──

abbrev pub with_settings : ProducerSettings → Queue → Queue
with_settings t q =
    record { handle = q.handle; settings = t; ids = q.ids; counters = q.counters; pending = q.pending; out = q.out }

abbrev pub with_ids : SequenceIds → Queue → Queue
with_ids i q = record { handle = q.handle; settings = q.settings; ids = i; counters = q.counters; pending = q.pending; out = q.out }

abbrev pub with_pending : List OpSend → Queue → Queue
with_pending l q =
    record { handle = q.handle; settings = q.settings; ids = q.ids; counters = q.counters; pending = l; out = q.out }

abbrev pub with_out : Outgoing → Queue → Queue
with_out o q =
    record { handle = q.handle; settings = q.settings; ids = q.ids; counters = q.counters; pending = q.pending; out = o }

abbrev pub with_counters : Counters → Queue → Queue
with_counters k q =
    record { handle = q.handle; settings = q.settings; ids = q.ids; counters = k; pending = q.pending; out = q.out }

-- ── answers ──

-- refused, by a number of document 01 and with its values, or done, with what the call gives
pub data Answer (A : Type 0) : Type 0 where
  refused : ℕ → List ℕ → Answer A
  done : A → Answer A

-- the queue after a call, and its answer
abbrev pub Outcome : Type 0 → Type 0
Outcome A = Queue × Answer A

-- a refusal that changes nothing
abbrev pub refuse : {A : Type 0} → ℕ → Queue → Outcome A
refuse n q = (q, refused n [])
