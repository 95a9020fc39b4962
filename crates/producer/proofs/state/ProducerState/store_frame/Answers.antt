-- `ProducerState::store_frame`: the row that is stored stands for the record.
use Rattle.std.proofs.Common.{◌≡◌, map, set, ap, ◌∙◌}
use Rattle.rows.specs.Frame.{decode_frame}
use Rattle.producer.specs.State.{state_of}
use Rattle.producer.proofs.Rows.{stored_row}
use Rattle.producer.proofs.state.ProducerState.store_frame.Goals as goal

pub returns-in-Some : goal.returns-in-Some
returns-in-Some c =
    let s = c.args.self.now in
    let e : map decode_frame c.store.new.slots ≡ set (map decode_frame s.outbound) c.in-Some.p.at c.in-Some.p.value =
    ap (map decode_frame) c.store.ensures ∙ stored_row decode_frame s.outbound _ _ _ c.encode.ensures in
    rw c.in-Some.is (λ j. record (state_of s) { outbound = e j })
