-- `ProducerState::take`: what is answered, written and stored is what the plan says.
use Rattle.std.proofs.Common.{◌≡◌, ◌^◌, ◌<◌, true, false, length, refl, sym, ap, ◌∙◌, arith}
use Rattle.std.proofs.lemmas.Result.{err_from_is_err_and}
use lib.ListN.{get_or-map}
use Rattle.laws.specs.Ring.{slot}
use Rattle.queue.specs.Sizes.{outbound_size}
use Rattle.rows.specs.Frame.{decode_frame}
use Rattle.rules.specs.declared.rings.Rings.{Rings}
use Rattle.frames.specs.Span.{is_batch}
use Rattle.producer.specs.State.{state_of}
use Rattle.producer.proofs.Payload.{items_room, part_room, items_put, part_put}
use Rattle.producer.proofs.Rows.{full_rows}
use Rattle.producer.proofs.Takes.{takes_writable, takes_done, takes_refused, taken_rows}
use Rattle.producer.proofs.state.ProducerState.take.Goals.{then-is_batch, else-is_batch}
use Rattle.producer.proofs.state.ProducerState.take.Goals as goal

pub put-requires : goal.put-requires
put-requires c =
    let r = c.args.self.now in
    let f = full_rows r (omega arith) (omega arith) (omega arith) (omega arith) (omega arith) in
    let store = c.args.store.now in
    let before = c.args.buffer.now in
    let small : length store < 2 ^ 63 = omega arith in
    let short : length before < 2 ^ 63 = omega arith in
    let at = c.slot-at.ensures ∙ ap (λ (k : Rings). slot outbound_size k.outbound.head 0) c.decode-rings.ensures in
    let front = c.decode-front.ensures ∙ sym (get_or-map decode_frame r.outbound c.slot-at.result _) in
    let w =
    takes_writable (state_of r) f _ _ at store before small short _ _ front c.decode-rings.ensures
    c.payload_span-span.result c.held_count-count.result c.held_count-count.ensures c.payload_span-span.ensures c.plan_take.result c.plan_take.ensures
    c.in_ok-plan.plan c.in_ok-plan.was in
    let e : is_batch _ ≡ true = sym c.is_batch.ensures ∙ c.if-is_batch.true in
    (w.held e, items_room _ _ _ _ _ e w)

pub overflow_add-plan : goal.overflow_add-plan
overflow_add-plan c =
    let r = c.args.self.now in
    let f = full_rows r (omega arith) (omega arith) (omega arith) (omega arith) (omega arith) in
    let store = c.args.store.now in
    let before = c.args.buffer.now in
    let small : length store < 2 ^ 63 = omega arith in
    let short : length before < 2 ^ 63 = omega arith in
    let at = c.slot-at.ensures ∙ ap (λ (k : Rings). slot outbound_size k.outbound.head 0) c.decode-rings.ensures in
    let front = c.decode-front.ensures ∙ sym (get_or-map decode_frame r.outbound c.slot-at.result _) in
    let w =
    takes_writable (state_of r) f _ _ at store before small short _ _ front c.decode-rings.ensures
    c.payload_span-span.result c.held_count-count.result c.held_count-count.ensures c.payload_span-span.ensures c.plan_take.result c.plan_take.ensures
    c.in_ok-plan.plan c.in_ok-plan.was in
    let e : is_batch _ ≡ false = sym c.is_batch.ensures ∙ c.if-is_batch.false in
    omega (arith, w.own e)

pub slice_bounds-copy-end : goal.slice_bounds-copy-end
slice_bounds-copy-end c =
    let r = c.args.self.now in
    let f = full_rows r (omega arith) (omega arith) (omega arith) (omega arith) (omega arith) in
    let store = c.args.store.now in
    let before = c.args.buffer.now in
    let small : length store < 2 ^ 63 = omega arith in
    let short : length before < 2 ^ 63 = omega arith in
    let at = c.slot-at.ensures ∙ ap (λ (k : Rings). slot outbound_size k.outbound.head 0) c.decode-rings.ensures in
    let front = c.decode-front.ensures ∙ sym (get_or-map decode_frame r.outbound c.slot-at.result _) in
    let w =
    takes_writable (state_of r) f _ _ at store before small short _ _ front c.decode-rings.ensures
    c.payload_span-span.result c.held_count-count.result c.held_count-count.ensures c.payload_span-span.ensures c.plan_take.result c.plan_take.ensures
    c.in_ok-plan.plan c.in_ok-plan.was in
    let e : is_batch _ ≡ false = sym c.is_batch.ensures ∙ c.if-is_batch.false in
    omega (arith, w.own e)

pub copy-requires : goal.copy-requires
copy-requires c =
    let r = c.args.self.now in
    let f = full_rows r (omega arith) (omega arith) (omega arith) (omega arith) (omega arith) in
    let store = c.args.store.now in
    let before = c.args.buffer.now in
    let small : length store < 2 ^ 63 = omega arith in
    let short : length before < 2 ^ 63 = omega arith in
    let at = c.slot-at.ensures ∙ ap (λ (k : Rings). slot outbound_size k.outbound.head 0) c.decode-rings.ensures in
    let front = c.decode-front.ensures ∙ sym (get_or-map decode_frame r.outbound c.slot-at.result _) in
    let w =
    takes_writable (state_of r) f _ _ at store before small short _ _ front c.decode-rings.ensures
    c.payload_span-span.result c.held_count-count.result c.held_count-count.ensures c.payload_span-span.ensures c.plan_take.result c.plan_take.ensures
    c.in_ok-plan.plan c.in_ok-plan.was in
    let e : is_batch _ ≡ false = sym c.is_batch.ensures ∙ c.if-is_batch.false in
    part_room _ _ _ _ _ _ (omega arith) e w

pub returns : goal.returns
returns c =
    let r = c.args.self.now in
    let f = full_rows r (omega arith) (omega arith) (omega arith) (omega arith) (omega arith) in
    let store = c.args.store.now in
    let before = c.args.buffer.now in
    let small : length store < 2 ^ 63 = omega arith in
    let short : length before < 2 ^ 63 = omega arith in
    let at = c.slot-at.ensures ∙ ap (λ (k : Rings). slot outbound_size k.outbound.head 0) c.decode-rings.ensures in
    let front = c.decode-front.ensures ∙ sym (get_or-map decode_frame r.outbound c.slot-at.result _) in
    let p = c.in_ok-plan.plan in
    let left = taken_rows r c.slot-at.result _ _ _ p.kind p.rings c.encode.ensures c.encode-self.ensures in
    let finish =
    takes_done (state_of r) f _ _ at store before small short _ _ front c.decode-rings.ensures
    c.payload_span-span.result c.held_count-count.result c.held_count-count.ensures c.payload_span-span.ensures c.plan_take.result c.plan_take.ensures
    p c.in_ok-plan.was c.if-is_batch.buffer in
    elim c.if-is_batch.branch [
      | then-is_batch w ↦
          let both = finish _ _ (omega arith) (items_put _ _ _ _ _ _ _ (sym c.is_batch.ensures ∙ w.if-is_batch.true) (rw (← w.buffer-is) at w.put.ensures)) _ left in
          record { meets = both.0; buffer_after = both.1.0; own = both.1.1.0; kept = tt }
      | else-is_batch w ↦
          let both = finish _ _ (omega arith) (part_put _ _ _ _ _ _ _ _ (omega arith) (sym c.is_batch.ensures ∙ w.if-is_batch.false) (rw (← w.buffer-is) at w.copy.ensures)) _ left in
          record { meets = both.0; buffer_after = both.1.0; own = both.1.1.0; kept = tt }
    ]

pub returns-in_err-plan : goal.returns-in_err-plan
returns-in_err-plan c =
    let r = c.args.self.now in
    let f = full_rows r (omega arith) (omega arith) (omega arith) (omega arith) (omega arith) in
    let store = c.args.store.now in
    let before = c.args.buffer.now in
    let small : length store < 2 ^ 63 = omega arith in
    let short : length before < 2 ^ 63 = omega arith in
    let at = c.slot-at.ensures ∙ ap (λ (k : Rings). slot outbound_size k.outbound.head 0) c.decode-rings.ensures in
    let front = c.decode-front.ensures ∙ sym (get_or-map decode_frame r.outbound c.slot-at.result _) in
    let both =
    takes_refused (state_of r) f _ _ at store before small short _ _ front c.decode-rings.ensures
    c.payload_span-span.result c.held_count-count.result c.held_count-count.ensures c.payload_span-span.ensures c.plan_take.result c.plan_take.ensures
    _ c.in_err-plan.was in
    let p = err_from_is_err_and c.from_residual.result c.from_residual.ensures.1 in
    record { meets = rw (p.1, p.2) both.0; buffer_after = rw p.1 both.1.0; own = rw p.1 both.1.1.0; kept = rw p.1 refl }
