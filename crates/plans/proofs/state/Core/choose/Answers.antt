-- `Core::choose`: the refusals are the definition's, in its order.
use Rattle.std.specs.Prelude.{◌≡◌, ℕ, Bool, not, Err}
use mathlib.Core.Path.{refl, ap, sym, ◌∙◌}
use Rattle.laws.specs.Choice.{pick}
use Rattle.types.specs.declared.error.ProducerError.TheVariants.{Closed, PartOutside, OverBound}
use Rattle.types.specs.declared.message.OutgoingMessage.{OutgoingMessage}
use Rattle.queue.specs.Send.{message_in, within_bounds}
use Rattle.plans.specs.declared.state.Core.{Core}
use Rattle.plans.specs.Choose.{chosen_within, chosen}
use Rattle.plans.proofs.state.Core.choose.Goals as goal

-- by the tests, each as the code has it and with what it gave
by : (n : ℕ) (m : OutgoingMessage) (reserved : ℕ) (c : Core) {r2 r3 b1 b2 b3 : Bool} → c.settings.switches.closed ≡ b1
    → r2 ≡ message_in n m m.payload → not r2 ≡ b2
    → r3 ≡ within_bounds m reserved → not r3 ≡ b3
    → pick b1 (Err Closed) (pick b2 (Err PartOutside) (pick b3 (Err OverBound) (chosen_within m c))) ≡ chosen n m reserved c
unfolding chosen
by n m reserved c e1 q2 e2 q3 e3 =
    let f2 = ap not (sym q2) ∙ e2 in
    let f3 = ap not (sym q3) ∙ e3 in
    sym (λ i. pick (e1 i) (Err Closed) (pick (f2 i) (Err PartOutside) (pick (f3 i) (Err OverBound) (chosen_within m c))))

pub returns-then-closed : goal.returns-then-closed
returns-then-closed c =
    let a = c.args in
    by a.store_len a.m a.reservation.bytes a.self c.if-closed.true refl refl refl refl

pub returns-then-not-message_in : goal.returns-then-not-message_in
returns-then-not-message_in c =
    let a = c.args in
    by a.store_len a.m a.reservation.bytes a.self c.if-closed.false c.message_in.ensures (ap not c.if-not-message_in.true) refl refl

pub returns-then-not-within_bounds : goal.returns-then-not-within_bounds
returns-then-not-within_bounds c =
    let a = c.args in
    by a.store_len a.m a.reservation.bytes a.self c.if-closed.false c.message_in.ensures (ap not c.if-not-message_in.false) c.within_bounds.ensures (ap not c.if-not-within_bounds.true)

pub returns-else-not-within_bounds : goal.returns-else-not-within_bounds
returns-else-not-within_bounds c =
    let a = c.args in
    c.choose_within.ensures
    ∙ by a.store_len a.m a.reservation.bytes a.self c.if-closed.false c.message_in.ensures (ap not c.if-not-message_in.false) c.within_bounds.ensures (ap not c.if-not-within_bounds.false)
