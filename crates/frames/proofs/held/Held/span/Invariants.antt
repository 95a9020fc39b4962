-- `frames::held::Held::span`: what is tested and added up, with what is still to come, is that of the whole batch.
use Prim.Native.Nat.{◌≤◌, min}
use Rattle.frames.specs.Held.{held_of}
use Rattle.frames.proofs.Batches.{Spans}
use Rattle.frames.proofs.held.Held.span.Given as goal
use Rattle.queue.specs.Sizes.{held_size}

abbrev pub invariant-loop-i : goal.invariant-loop-i
invariant-loop-i l =
    (l.i ≤ min l.self.ring.len held_size) × Spans l.n (held_of l.self) l.span l.i
