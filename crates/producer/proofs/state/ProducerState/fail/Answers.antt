-- `ProducerState::fail`: what settling leaves, and the code as it came.
use Rattle.std.proofs.Common.{◌≡◌, ℤ, sym, subst, w32, rules}
use Rattle.std.proofs.lemmas.Result.{err_from_is_err_and}
use mir.ValLaws.{to_z-of_z}
use Rattle.rows.specs.Entry.{decode_entry}
use Rattle.queue.specs.Queue.{Outcome, done}
use Rattle.queue.specs.Settle.{apply_send_error}
use Rattle.types.specs.declared.entry.OpSend.{OpSend}
use Rattle.producer.specs.View.{view}
use Rattle.producer.proofs.Receipts.{failed, not_failed}
use Rattle.producer.proofs.state.ProducerState.fail.Goals as goal

pub returns : goal.returns
returns c =
    let s = c.args.self.now in
    let id = c.args.err.sequence_id.0 in
    let code = c.args.err.error in
    record {
      meets =
          subst (λ (z : ℤ). ◌≡◌ {A = Outcome (OpSend × ℤ)} (view c.settle.new.self, done ((decode_entry c.in_ok-row.row), z)) (apply_send_error id code (view s)))
          (sym (to_z-of_z w32 code (search rules)))
          (failed id s c.settle.new.self code (decode_entry c.in_ok-row.row) c.in_ok-row.ensures);
      kept = tt;
    }

pub returns-in_err-row : goal.returns-in_err-row
returns-in_err-row c =
    let not = not_failed c.args.err.sequence_id.0 c.args.self.now c.settle.new.self c.args.err.error _ c.in_err-row.ensures in
    let p = err_from_is_err_and c.from_residual.result c.from_residual.ensures.1 in
    record { meets = rw (p.1, p.2) not.0; kept = rw p.1 not.1 }
