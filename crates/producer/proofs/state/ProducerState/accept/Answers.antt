-- `ProducerState::accept`: the entry's three parts behind the last one, the ring one longer, and the next id taken.
use Rattle.std.specs.Int.{from_bool}
use Rattle.std.proofs.Common.{◌≡◌, true, ap, ◌∙◌, w32}
use mir.ValLaws.{to_z-of_z}
use Rattle.queue.specs.Sizes.{pending_size}
use Rattle.types.specs.declared.entry.OpSend.{OpSend}
use Rattle.rows.specs.Entry.{decode_publish, decode_replay}
use Rattle.rows.specs.Message.{decode_message}
use Rattle.rules.specs.Rings.{place_behind, longer_behind}
use Rattle.rules.specs.declared.rings.Rings.{Rings}
use Rattle.plans.specs.Send.{publish_of}
use Rattle.producer.specs.Push.{whole}
use Rattle.producer.specs.State.{state_of}
use Rattle.producer.proofs.Behind.{behind, behind_same}
use Rattle.producer.proofs.state.ProducerState.accept.Goals as goal

pub returns : goal.returns
returns c =
    let a = c.args in
    let r = a.self.now in
    let s = state_of r in
    let p = publish_of (whole (decode_message a.message.now) a.a) a.num_messages (decode_replay a.replay) s.core in
    let number : record p { num_messages = _ } ≡ p = λ j. record p { num_messages = to_z-of_z w32 a.num_messages c.ranges.num_messages j } in
    let op : OpSend = record { sequence_id = s.core.ids.next_sequence_id; answerable = true; publish = p } in
    let place = c.place_behind-place.ensures ∙ ap (λ (k : Rings). place_behind pending_size k.pending) c.decode.ensures in
    let ring = c.encode-self.ensures ∙ c.longer_behind.ensures ∙ ap (λ (k : Rings). longer_behind pending_size k.pending) c.decode.ensures in
    let sent = behind decode_publish (λ (x : OpSend). x.publish) r.pending c.store_at.new.slots c.place_behind-place.result _ _ op c.store_at.ensures place number in
    let ids = behind_same (λ (x : OpSend). x.sequence_id) r.pending_ids c.store_at-2.new.slots c.place_behind-place.result _ op c.store_at-2.ensures place in
    let marks = behind_same (λ (x : OpSend). from_bool x.answerable) r.pending_marks c.store_at-3.new.slots c.place_behind-place.result _ op c.store_at-3.ensures place in
    λ j.
    record s {
      core = record s.core { ids = c.assigned_ids-self.ensures j; rings = record s.core.rings { pending = ring j } };
      pending = sent j;
      pending_ids = ids j;
      pending_marks = marks j;
    }
