-- `ProducerState::entries`: the array up to the count is the list of entries.
use Rattle.std.proofs.Common.{min, map}
use Rattle.rows.specs.Entry.{decode_entry}
use Rattle.producer.specs.View.{view}
use Rattle.producer.proofs.Listed.{Listing}
use Rattle.producer.proofs.state.ProducerState.entries.Given as goal
use Rattle.queue.specs.Sizes.{pending_size}

abbrev pub invariant-loop-i : goal.invariant-loop-i
invariant-loop-i l = Listing pending_size (min l.self.core.rings.pending.len pending_size) (view l.self).pending (map decode_entry l.items) l.i
