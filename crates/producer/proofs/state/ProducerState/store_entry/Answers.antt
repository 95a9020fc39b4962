-- `ProducerState::store_entry`: the row that is stored stands for what was sent.
use Rattle.std.proofs.Common.{◌≡◌, map, set}
use Rattle.rows.specs.Entry.{decode_publish}
use Rattle.producer.specs.State.{state_of}
use Rattle.producer.specs.Apply.{store_entry}
use Rattle.std.specs.Prelude.{Some}
use Rattle.producer.proofs.Rows.{stored_row}
use Rattle.producer.proofs.state.ProducerState.store_entry.Goals as goal

pub returns-then-p-lt256 : goal.returns-then-p-lt256
returns-then-p-lt256 c =
    let s = c.args.self.now in
    let p = c.in-Some.p in
    let e : map decode_publish (set s.pending p.at c.encode.result) ≡ set (map decode_publish s.pending) p.at p.value.publish =
    stored_row decode_publish s.pending p.at c.encode.result p.value.publish c.encode.ensures in
    rw c.in-Some.is (λ j. record (store_entry (Some p) (state_of s)) { pending = e j })
