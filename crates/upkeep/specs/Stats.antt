-- Counters and ids on plain values. These mirror the code: what a reader must believe is in crate `queue`.
use Rattle.std.specs.Prelude.{ℕ, min, ltb, ℤ}
use Rattle.laws.specs.Choice.{pick}
use Rattle.queue.specs.Sizes.{pending_size}
use Rattle.types.specs.Ids.{before_next}
use Rattle.types.specs.declared.stats.Counters.{Counters}
use Rattle.types.specs.declared.stats.ProducerStats.{ProducerStats}
use Rattle.types.specs.declared.stats.SequenceIds.{SequenceIds}

abbrev pub stats_of : Counters → ℕ → ProducerStats
stats_of counters pending = record { counters = counters; pending_queue_size = min pending pending_size }

abbrev pub both : ℕ → ℤ → SequenceIds
both next n = record { next_sequence_id = record { 0 = next }; last_sequence_id_pushed = n; last_sequence_id_published = n }

abbrev pub only_next : ℕ → SequenceIds → SequenceIds
only_next next i =
    record {
      next_sequence_id = record { 0 = next };
      last_sequence_id_pushed = i.last_sequence_id_pushed;
      last_sequence_id_published = i.last_sequence_id_published;
    }

abbrev pub initial_ids : ℕ → SequenceIds → SequenceIds
initial_ids next i = pick (ltb 0 next) (both next (before_next next)) (only_next next i)
