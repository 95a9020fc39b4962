-- `ProducerState::receive`: what settling leaves, with the published number.
use Rattle.std.proofs.Common.{◌≡◌, ℕ, ap, ◌∙◌, arith}
use Rattle.std.proofs.lemmas.Result.{err_from_is_err_and}
use Rattle.queue.specs.Ids.{published}
use Rattle.rows.specs.Entry.{decode_entry}
use Rattle.queue.specs.Queue.{done}
use Rattle.producer.specs.State.{state_of}
use Rattle.producer.specs.View.{queue_of}
use Rattle.producer.proofs.Receipts.{ids_stored, received, not_received}
use Rattle.producer.proofs.state.ProducerState.receive.Goals as goal

pub returns : goal.returns
returns c =
    let s = c.args.self.now in
    let t = c.settle.new.self in
    let m = c.args.receipt.message_id in
    let id : ℕ = c.args.receipt.sequence_id.0 in
    let ids : _ ≡ id = omega arith in
    let ids_now = c.published_ids-self.ensures ∙ ap (λ (k : ℕ). published k (state_of t).core.ids) ids in
    record {
      meets =
          (λ j. (queue_of (ids_stored (state_of t) (ids_now j)), done ((decode_entry c.in_ok-row.row), c.of_receipt.ensures j)))
          ∙ received id s t m (decode_entry c.in_ok-row.row) c.in_ok-row.ensures;
      kept = tt;
    }

pub returns-in_err-row : goal.returns-in_err-row
returns-in_err-row c =
    let not = not_received c.args.receipt.sequence_id.0 c.args.self.now c.settle.new.self c.args.receipt.message_id _ c.in_err-row.ensures in
    let p = err_from_is_err_and c.from_residual.result c.from_residual.ensures.1 in
    record { meets = rw (p.1, p.2) not.0; kept = rw p.1 not.1 }
