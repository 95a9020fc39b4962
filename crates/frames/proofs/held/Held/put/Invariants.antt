-- `frames::held::Held::put`: the items written and those still to come are the payload.
use mathlib.Core.Path.{◌≡◌}
use Prim.Native.Nat.{◌≤◌, min}
use lib.ListN.{length, drop}
use Rattle.frames.specs.Held.{held_of}
use Rattle.wire.specs.Batch.{batch_payload}
use Rattle.wire.proofs.Writes.{Going}
use Rattle.frames.proofs.held.Held.put.Given as goal
use Rattle.queue.specs.Sizes.{held_size}

abbrev pub invariant-loop-i : goal.invariant-loop-i
invariant-loop-i l =
    let s = l.self in
    let ms = held_of s in
    (l.i ≤ min s.ring.len held_size) × Going (batch_payload l.store ms) (batch_payload l.store (drop l.i ms)) l.initial.out l.out l.to × (length l.out ≡ length l.initial.out)
