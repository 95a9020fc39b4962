-- An entry leaves the pending ring once the gap is closed. Assumes nothing.
use Rattle.std.proofs.Common.{◌≡◌, ℕ, ◌≤◌, min, List, length, take_all, sym, ap, ◌∙◌, arith}
use Rattle.laws.specs.Lists.{without}
use Rattle.laws.proofs.Lists.{without_last}
use Rattle.types.specs.declared.entry.OpSend.{OpSend}
use Rattle.queue.specs.Queue.{with_pending}
use Rattle.queue.specs.Sizes.{pending_size}
use Rattle.rules.specs.declared.rings.Ring.{Ring}
use Rattle.plans.specs.State.{core_rings}
use Rattle.producer.specs.View.{queue_of}
use Rattle.producer.specs.Settle.{GapClosed}
use Rattle.producer.specs.State.{State}
use Rattle.producer.proofs.Listed.{few_pending}

without_past : (l : List OpSend) (i : ℕ) → length l ≤ i → without l i ≡ l
without_past l i h = without_last l i (omega arith) ∙ take_all i l h

-- another pending ring
abbrev pub ring_stored : State → Ring pending_size → State
ring_stored s r = record s { core = core_rings (record s.core.rings { pending = r }) s.core }

module _ (s : State) (place : ℕ) where
  pub removed : (t : State) (shorter : Ring pending_size) → GapClosed place shorter s t
      → queue_of (ring_stored t shorter) ≡ with_pending (without (queue_of s).pending place) (queue_of s)
  unfolding queue_of
  removed t shorter g = ap (λ (u : State). queue_of (ring_stored u shorter)) g.same ∙ (λ j. with_pending (g.moved j) (queue_of s))

  pub removed_none : min s.core.rings.pending.len pending_size ≤ place → queue_of s ≡ with_pending (without (queue_of s).pending place) (queue_of s)
  unfolding queue_of
  removed_none b =
      ap (λ (l : List OpSend). with_pending l (queue_of s)) (sym (without_past (queue_of s).pending place (omega (arith, few_pending s))))
