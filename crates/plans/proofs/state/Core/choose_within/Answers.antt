-- `Core::choose_within`: the refusals are the definition's, in its order.
use Rattle.std.specs.Prelude.{◌≡◌, ℕ, ◌+◌, min, Bool, not, ◌&&◌, ltb, leb, Err, Ok}
use mathlib.Core.Path.{refl, ap, sym, ◌∙◌}
use Rattle.laws.specs.Choice.{pick}
use Rattle.types.specs.declared.error.ProducerError.TheVariants.{OutboundFull, HeldFull, PendingFull}
use Rattle.types.specs.declared.message.OutgoingMessage.{OutgoingMessage}
use Rattle.types.specs.declared.way.Way.{Way}
use Rattle.queue.specs.Send.{way_of, pushes, joins, is_too_large}
use Rattle.queue.specs.Sizes.{outbound_size, held_size, pending_size}
use Rattle.plans.specs.declared.state.Core.{Core}
use Rattle.plans.specs.Choose.{allowed_way, chosen_within}
use Rattle.plans.proofs.state.Core.choose_within.Goals as goal

module _ (m : OutgoingMessage) (c : Core) {w : Way} (e : w ≡ way_of c.settings m c.batch) where
  -- by the tests, each as the code has it and with what it gave
  by : {n : ℕ} {r4 r5 r7 b4 b5 b7 : Bool} → n ≡ pushes w
      → r4 ≡ ltb outbound_size (c.rings.waiting + n) → r4 ≡ b4
      → r5 ≡ joins w && leb held_size (min c.rings.held.len held_size) → r5 ≡ b5
      → r7 ≡ not (is_too_large w) && leb pending_size (min c.rings.pending.len pending_size) → r7 ≡ b7
      → pick b4 (Err OutboundFull) (pick b5 (Err HeldFull) (pick b7 (Err PendingFull) (Ok w))) ≡ chosen_within m c
  unfolding chosen_within
  by en q4 e4 q5 e5 q7 e7 =
      let f4 = ap (λ (k : ℕ). ltb outbound_size (c.rings.waiting + k)) (sym en) ∙ sym q4 ∙ e4 in
      let f5 = sym q5 ∙ e5 in
      let f7 = sym q7 ∙ e7 in
      sym (λ i. pick (f4 i) (Err OutboundFull) (pick (f5 i) (Err HeldFull) (pick (f7 i) (Err PendingFull) (Ok w))))
      ∙ ap (λ (v : Way). allowed_way v c) e

pub returns-then-too_many : goal.returns-then-too_many
returns-then-too_many c =
    let a = c.args in
    by a.m a.self c.way-w.ensures c.frames_pushed.ensures c.too_many.ensures c.if-too_many.true refl refl refl refl

pub returns-then-held_full : goal.returns-then-held_full
returns-then-held_full c =
    let a = c.args in
    by a.m a.self c.way-w.ensures c.frames_pushed.ensures c.too_many.ensures c.if-too_many.false
    c.held_full.ensures c.if-held_full.true refl refl

pub returns-then-pending_full : goal.returns-then-pending_full
returns-then-pending_full c =
    let a = c.args in
    by a.m a.self c.way-w.ensures c.frames_pushed.ensures c.too_many.ensures c.if-too_many.false
    c.held_full.ensures c.if-held_full.false c.pending_full.ensures c.if-pending_full.true

pub returns-else-pending_full : goal.returns-else-pending_full
returns-else-pending_full c =
    let a = c.args in
    by a.m a.self c.way-w.ensures c.frames_pushed.ensures c.too_many.ensures c.if-too_many.false
    c.held_full.ensures c.if-held_full.false c.pending_full.ensures c.if-pending_full.false
