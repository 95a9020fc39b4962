-- The rings that rows stand for.
use Rattle.std.specs.Prelude.{ℕ}
use Rattle.rules.specs.declared.rings.Ring.{Ring}
use Rattle.rules.specs.declared.rings.Rings.{Rings}
use Rattle.rows.specs.declared.rings.RingRow.{RingRow}
use Rattle.rows.specs.declared.rings.RingsRow.{RingsRow}
use Rattle.queue.specs.Sizes.{outbound_size, held_size, pending_size}

abbrev pub decode_ring : (n : ℕ) → RingRow → Ring n
decode_ring n r = record { head = r.head; len = r.len }

abbrev pub decode_rings : RingsRow → Rings
decode_rings r =
    record {
      outbound = decode_ring outbound_size r.outbound;
      waiting = r.waiting;
      held = decode_ring held_size r.held;
      pending = decode_ring pending_size r.pending;
    }
