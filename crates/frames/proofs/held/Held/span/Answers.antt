-- `frames::held::Held::span`: what is tested and added up, with what is still to come, is that of the whole batch.
use Rattle.std.proofs.Common.{◌<◌, length, map, sym, ap, ◌∙◌, arith}
use lib.ListN.{length-map}
use Rattle.frames.specs.Held.{held_of}
use Rattle.frames.specs.Span.{with_item}
use Rattle.frames.proofs.Batches.{spans_step, spans_stop, spans_all, held_length}
use Rattle.rows.specs.Message.{decode_single}
use Rattle.frames.proofs.held.Held.span.Goals as goal

pub loop-i-preserved : goal.loop-i-preserved
loop-i-preserved c =
    let a = c.args in
    let s = a.self in
    let l = c.loop-i in
    let long = held_length (map decode_single s.messages.now) (length-map s.messages.now decode_single ∙ s.full) s.ring.head s.ring.len in
    let here : l.i < length (held_of s) = omega (arith, long) in (
      omega (arith, long),
      spans_step a.n (held_of s) l.span l.i _ here l.invariant.1 _
          (ap (with_item a.n l.span) c.message.ensures ∙ sym c.with_item.ensures ∙ c.in_ok-span.was),
    )

pub returns-in_err-span : goal.returns-in_err-span
returns-in_err-span c =
    let a = c.args in
    let s = a.self in
    let l = c.loop-i in
    let long = held_length (map decode_single s.messages.now) (length-map s.messages.now decode_single ∙ s.full) s.ring.head s.ring.len in
    let here : l.i < length (held_of s) = omega (arith, long) in
    c.from_residual.ensures
    ∙ spans_stop a.n (held_of s) l.span l.i _ here l.invariant.1
    (ap (with_item a.n l.span) c.message.ensures ∙ sym c.with_item.ensures ∙ c.in_err-span.was)

pub returns : goal.returns
returns c =
    let a = c.args in
    let s = a.self in
    let l = c.loop-i in
    let long = held_length (map decode_single s.messages.now) (length-map s.messages.now decode_single ∙ s.full) s.ring.head s.ring.len in
    spans_all a.n (held_of s) l.span l.i (omega (arith, long)) l.invariant.1
