-- `ProducerState::send_deadline`: the entry at the head is the front one.
use Rattle.std.proofs.Common.{ap, sym, ◌∙◌}
use lib.ListN.{get_or-map}
use Rattle.laws.specs.Ring.{slot}
use Rattle.queue.specs.Run.{send_deadline}
use Rattle.queue.specs.Sizes.{pending_size}
use Rattle.rows.specs.Entry.{decode_publish}
use Rattle.rules.specs.declared.rings.Rings.{Rings}
use Rattle.plans.specs.Ids.{send_deadline_of}
use Rattle.producer.specs.State.{state_of}
use Rattle.producer.proofs.Meets.{asked}
use Rattle.producer.proofs.Queries.{send_deadline_lem}
use Rattle.producer.proofs.Rows.{full_rows}
use Rattle.producer.proofs.state.ProducerState.send_deadline.Goals as goal

pub returns : goal.returns
returns c =
    let r = c.args.self.now in
    let s = state_of r in
    let h = c.type_inv.self in
    let f = full_rows r h.1.0.1.0.1 h.1.1.0.1.0.1 h.1.1.1.0.1.0.1 h.1.1.1.1.0.1.0.1 h.1.1.1.1.1.0.1.0.1 in
    let at = c.slot-at.ensures ∙ ap (λ (k : Rings). slot pending_size k.pending.head 0) c.decode.ensures in
    let front = c.decode-front.ensures ∙ sym (get_or-map decode_publish r.pending c.slot-at.result _) in
    asked r send_deadline
    (c.next_send_deadline.ensures
    ∙ (λ j. send_deadline_of (c.decode-2.ensures j) (front j).enqueued_at)
    ∙ send_deadline_lem s f _ at _)
