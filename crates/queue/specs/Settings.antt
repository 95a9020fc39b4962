-- Document 01, 'Who can cause a refusal', setup; and the calls that set the Rust's public settings and close the producer.
use Rattle.std.specs.Prelude.{ℕ, ◌-◌, Bool, true, List, ◌++◌, length, replicate, leb}
use Rattle.laws.specs.Choice.{pick}
use Rattle.types.specs.Bounds.{longest_name, largest_limit, longest_batch, largest_headroom}
use Rattle.types.specs.declared.frame.ProducerName.{ProducerName}
use Rattle.types.specs.declared.settings.Limits.{Limits}
use Rattle.types.specs.declared.settings.Switches.{Switches}
use Rattle.types.specs.declared.settings.Delays.{Delays}
use Rattle.types.specs.declared.settings.ProducerSettings.{ProducerSettings}
use Rattle.types.specs.declared.settings.Setting.{Setting}
use Rattle.types.specs.declared.settings.Setting.TheVariants.{MaxMessageSize, MaxBatchSizeBytes, MaxMessagesInBatch, MetadataReservation, BatchingEnabled, ChunkingEnabled, SendTimeout, BatchingMaxPublishDelay, BrokerReady}
use Rattle.queue.specs.Queue.{Queue, Outcome, done, refuse, with_settings}

-- 8: message limit or batch bytes over 16,777,216, batch count over 128; headroom over 65,536 (document 02, K6)
abbrev pub allowed : Setting → Bool
allowed (MaxMessageSize n) = leb n largest_limit
allowed (MaxBatchSizeBytes n) = leb n largest_limit
allowed (MaxMessagesInBatch n) = leb n longest_batch
allowed (MetadataReservation n) = leb n largest_headroom
allowed (BatchingEnabled b) = true
allowed (ChunkingEnabled b) = true
allowed (SendTimeout d) = true
allowed (BatchingMaxPublishDelay d) = true
allowed (BrokerReady b) = true

abbrev pub with_limits : Limits → ProducerSettings → ProducerSettings
with_limits l t = record { name = t.name; limits = l; switches = t.switches; delays = t.delays }

abbrev pub with_switches : Switches → ProducerSettings → ProducerSettings
with_switches w t = record { name = t.name; limits = t.limits; switches = w; delays = t.delays }

abbrev pub with_delays : Delays → ProducerSettings → ProducerSettings
with_delays d t = record { name = t.name; limits = t.limits; switches = t.switches; delays = d }

abbrev pub limits_of : ℕ → ℕ → ℕ → ℕ → Limits
limits_of size bytes count headroom =
    record { max_message_size = size; max_batch_size_bytes = bytes; max_messages_in_batch = count; metadata_reservation = headroom }

abbrev pub switches_of : Bool → Bool → Bool → Bool → Switches
switches_of batching chunking ready closed =
    record { batching_enabled = batching; chunking_enabled = chunking; broker_ready = ready; closed = closed }

-- the settings with one of them changed
abbrev pub changed : Setting → ProducerSettings → ProducerSettings
changed (MaxMessageSize n) t =
    let l = t.limits in with_limits (limits_of n l.max_batch_size_bytes l.max_messages_in_batch l.metadata_reservation) t
changed (MaxBatchSizeBytes n) t =
    let l = t.limits in with_limits (limits_of l.max_message_size n l.max_messages_in_batch l.metadata_reservation) t
changed (MaxMessagesInBatch n) t =
    let l = t.limits in with_limits (limits_of l.max_message_size l.max_batch_size_bytes n l.metadata_reservation) t
changed (MetadataReservation n) t =
    let l = t.limits in with_limits (limits_of l.max_message_size l.max_batch_size_bytes l.max_messages_in_batch n) t
changed (BatchingEnabled b) t =
    let w = t.switches in with_switches (switches_of b w.chunking_enabled w.broker_ready w.closed) t
changed (ChunkingEnabled b) t =
    let w = t.switches in with_switches (switches_of w.batching_enabled b w.broker_ready w.closed) t
changed (BrokerReady b) t =
    let w = t.switches in with_switches (switches_of w.batching_enabled w.chunking_enabled b w.closed) t
changed (SendTimeout d) t =
    with_delays (record { send_timeout = d; batching_max_publish_delay = t.delays.batching_max_publish_delay }) t
changed (BatchingMaxPublishDelay d) t =
    with_delays (record { send_timeout = t.delays.send_timeout; batching_max_publish_delay = d }) t

unfoldable pub set : Setting → Queue → Outcome (Unit {0})
set s q = pick (allowed s) (with_settings (changed s q.settings) q, done tt) (refuse 8 q)

-- the producer's name is held as up to 64 bytes
abbrev pub name_from : List ℕ → ProducerName
name_from bytes = record { bytes = bytes ++ replicate (longest_name - length bytes) 0; len = length bytes }

abbrev pub with_name : ProducerName → ProducerSettings → ProducerSettings
with_name n t = record { name = n; limits = t.limits; switches = t.switches; delays = t.delays }

-- 8: name over 64
unfoldable pub set_name : List ℕ → Queue → Outcome (Unit {0})
set_name bytes q = pick (leb (length bytes) longest_name) (with_settings (with_name (name_from bytes) q.settings) q, done tt) (refuse 8 q)

-- for good: no call opens it again
abbrev pub closed : ProducerSettings → ProducerSettings
closed t = let w = t.switches in with_switches (switches_of w.batching_enabled w.chunking_enabled w.broker_ready true) t

unfoldable pub close : Queue → Queue
close q = with_settings (closed q.settings) q
