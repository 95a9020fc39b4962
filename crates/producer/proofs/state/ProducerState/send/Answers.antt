-- `ProducerState::send`: what is planned is carried out, and the plan's stores make the queue of the definition.
use Rattle.std.proofs.Common.{refl, length, sym, ap, ◌∙◌, arith}
use Rattle.std.proofs.lemmas.Result.{err_from_is_err_and}
use Rattle.types.specs.declared.message.OutgoingMessage.{OutgoingMessage}
use Rattle.rows.specs.Message.{decode_message}
use Rattle.plans.specs.Choose.{chosen}
use Rattle.plans.specs.declared.state.Core.{Core}
use Rattle.producer.specs.Push.{whole}
use Rattle.producer.specs.State.{state_of}
use Rattle.producer.proofs.Rows.{full_rows}
use Rattle.producer.proofs.Sends.{send_done, send_refused}
use Rattle.producer.proofs.state.ProducerState.send.Goals as goal

pub returns : goal.returns
returns c =
    let r = c.args.self.now in
    let f = full_rows r (omega arith) (omega arith) (omega arith) (omega arith) (omega arith) in
    let a = whole (decode_message c.args.message.now) c.args.a in
    let n = length c.args.store.now in
    let way =
    c.in_ok-way.ensures
    ∙ ap (λ (k : Core). chosen n c.decode-m.result c.args.a.reservation.bytes k) c.decode.ensures
    ∙ ap (λ (m : OutgoingMessage). chosen n m c.args.a.reservation.bytes (state_of r).core) c.decode-m.ensures in
    let both = send_done (state_of r) f a r c.follow.new.self n c.in_ok-way.way (sym way) c.follow.result (state_of c.follow.new.self) c.follow.ensures.carries.0 c.follow.ensures.carries.1 c.follow.ensures.kept in
    record { meets = both.0; kept = both.1 }

pub returns-in_err-way : goal.returns-in_err-way
returns-in_err-way c =
    let r = c.args.self.now in
    let f = full_rows r (omega arith) (omega arith) (omega arith) (omega arith) (omega arith) in
    let a = whole (decode_message c.args.message.now) c.args.a in
    let n = length c.args.store.now in
    let way =
    c.in_err-way.ensures
    ∙ ap (λ (k : Core). chosen n c.decode-m.result c.args.a.reservation.bytes k) c.decode.ensures
    ∙ ap (λ (m : OutgoingMessage). chosen n m c.args.a.reservation.bytes (state_of r).core) c.decode-m.ensures in
    let p = err_from_is_err_and c.from_residual.result c.from_residual.ensures.1 in
    let both = send_refused (state_of r) f a r r n _ (sym way) refl in
    record { meets = rw (p.1, p.2) both.0; kept = rw (p.1, p.2) both.1 }
