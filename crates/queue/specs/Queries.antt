-- What can be asked of a producer besides its deadlines.
use Rattle.std.specs.Prelude.{ℕ, Bool, length, ℤ}
use Rattle.types.specs.declared.stats.ProducerStats.{ProducerStats}
use Rattle.queue.specs.Queue.{Queue}
use Rattle.queue.specs.Batch.{can_add_to_batch}

-- whether a message of this payload size and count may join, if it is batchable ('batch')
unfoldable pub may_add : ℕ → ℤ → Queue → Bool
may_add size num_messages q = can_add_to_batch q.settings q.out.batch size num_messages

-- the waiting frames, chunks counted singly
abbrev pub outbound_len : Queue → ℕ
outbound_len q = q.out.waiting

-- the headroom that is set (document 02, K6)
abbrev pub metadata_reservation : Queue → ℕ
metadata_reservation q = q.settings.limits.metadata_reservation

abbrev pub stats : Queue → ProducerStats
stats q = record { counters = q.counters; pending_queue_size = length q.pending }
