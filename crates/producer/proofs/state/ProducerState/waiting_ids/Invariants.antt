-- `ProducerState::waiting_ids`: the array up to the count is the list of the frames' ids.
use Rattle.std.proofs.Common.{map, min}
use Rattle.producer.specs.Replay.{frame_id}
use Rattle.producer.specs.View.{view}
use Rattle.producer.proofs.Listed.{Listing}
use Rattle.producer.proofs.state.ProducerState.waiting_ids.Given as goal
use Rattle.queue.specs.Sizes.{outbound_size}

abbrev pub invariant-loop-i : goal.invariant-loop-i
invariant-loop-i l = Listing outbound_size (min l.self.core.rings.outbound.len outbound_size) (map frame_id (view l.self).out.frames) l.items l.i
