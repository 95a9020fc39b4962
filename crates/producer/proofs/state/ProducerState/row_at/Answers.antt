-- `ProducerState::row_at`: the three arrays at a slot are the entry there.
use Rattle.std.proofs.Common.{ap, ◌∙◌}
use Rattle.laws.specs.Ring.{slot}
use Rattle.queue.specs.Sizes.{pending_size}
use Rattle.rules.specs.declared.rings.Rings.{Rings}
use Rattle.producer.proofs.Locate.{row_there}
use Rattle.producer.proofs.Rows.{full_rows}
use Rattle.producer.proofs.state.ProducerState.row_at.Goals as goal

pub returns-clause-entry : goal.returns-clause-entry
returns-clause-entry c =
    let r = c.args.self.now in
    let h = c.type_inv.self in
    let f = full_rows r h.1.0.1.0.1 h.1.1.0.1.0.1 h.1.1.1.0.1.0.1 h.1.1.1.1.0.1.0.1 h.1.1.1.1.1.0.1.0.1 in
    let at = c.slot-at.ensures ∙ ap (λ (k : Rings). slot pending_size k.pending.head c.args.place) c.decode.ensures in
    row_there r f c.args.place _ at _
