-- `frames::held::Held::put`: the items written and those still to come are the payload.
use mathlib.Core.Path.{◌≡◌, ap, subst, ◌∙◌}
use mathlib.Core.List.{List, [], map}
use Prim.Native.Nat.{ℕ, ◌+◌, ◌<◌, ◌≤◌}
use lib.ListN.{length, drop, drop_of_length-le, length-map}
use Rattle.frames.specs.Held.{held_of}
use Rattle.rows.specs.Message.{decode_single}
use Rattle.wire.specs.Batch.{items, batch_payload}
use Rattle.wire.proofs.Writes.{Going, going_lent_room, going_lent, going_end, same}
use Rattle.frames.proofs.Batches.{held_length, held_next, held_in_lem}
use native.Mathlib.Omega.{arith}
use Rattle.frames.proofs.held.Held.put.Goals as goal

pub put_item-to-requires : goal.put_item-to-requires
put_item-to-requires c =
    let a = c.args in
    let s = a.self in
    let l = c.loop-i in
    let ms = held_of s in
    let long = held_length (map decode_single s.messages.now) (length-map s.messages.now decode_single ∙ s.full) s.ring.head s.ring.len in
    let here : l.i < length ms = omega (arith, long) in
    let there = c.message.ensures in
    let g = subst (λ (todo : List ℕ). Going (batch_payload a.store.now ms) todo a.out.now l.out l.to) (held_next a.store.now ms l.i _ there here) l.invariant.1 in
    (held_in_lem a.store.now ms l.i _ there here c.requires.0, going_lent_room (batch_payload a.store.now (drop (l.i + 1) ms)) g c.requires.1)

pub loop-i-preserved : goal.loop-i-preserved
loop-i-preserved c =
    let a = c.args in
    let s = a.self in
    let l = c.loop-i in
    let ms = held_of s in
    let long = held_length (map decode_single s.messages.now) (length-map s.messages.now decode_single ∙ s.full) s.ring.head s.ring.len in
    let here : l.i < length ms = omega (arith, long) in
    let g = subst (λ (todo : List ℕ). Going (batch_payload a.store.now ms) todo a.out.now l.out l.to) (held_next a.store.now ms l.i _ c.message.ensures here) l.invariant.1 in
    let then = going_lent g c.put_item-to.ensures in
    (omega (arith, long), then, same then.sofar)

pub returns : goal.returns
unfolding items
returns c =
    let a = c.args in
    let s = a.self in
    let l = c.loop-i in
    let ms = held_of s in
    let long = held_length (map decode_single s.messages.now) (length-map s.messages.now decode_single ∙ s.full) s.ring.head s.ring.len in
    let past : length ms ≤ l.i = omega (arith, long) in
    let none : batch_payload a.store.now (drop l.i ms) ≡ [] = ap (batch_payload a.store.now) (drop_of_length-le ms past) in
    going_end (subst (λ (todo : List ℕ). Going (batch_payload a.store.now ms) todo a.out.now l.out l.to) none l.invariant.1)
