-- Every row holds: antt computes both sides. Assumes nothing.
use mathlib.Core.List.{map}
use mathlib.Core.Path.{◌≡◌, refl}
use Rattle.wire.specs.Proto.{varint_by, varint, key, varint_field, bytes_field, be32}
use Rattle.wire.specs.Single.{single}
use Rattle.wire.specs.Batch.{item, items}
use Rattle.queue.specs.Ids.{set_initial_sequence_id}
use Rattle.queue.specs.Settings as settings
use Rattle.queue.specs.Batch.{can_add_to_batch, flushed, flush_batch}
use Rattle.queue.specs.Send.{flushes_before, plan, follow, add_to_batch, emit_chunked, queue_send}
use Rattle.queue.specs.Take.{next_outbound_frame}
use Rattle.queue.specs.Run.{after, taken}
use Rattle.queue.specs.Rows.{Row, rows}

pub rows_hold : map (λ (r : Row). r.computed) rows ≡ map (λ (r : Row). r.expected) rows
unfolding after taken set_initial_sequence_id settings.set queue_send plan flushes_before can_add_to_batch follow add_to_batch emit_chunked flush_batch flushed next_outbound_frame items item single varint_field bytes_field key varint varint_by be32
rows_hold = refl
