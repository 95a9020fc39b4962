-- From what settling an id leaves of a state to the answers of receipts and errors. Assumes nothing.
use Rattle.std.specs.Prelude.{Err, Ok, Option, Some, None, Result}
use Rattle.std.proofs.Common.{◌≡◌, ℕ, ◌+◌, Bool, true, false, List, [], ◌++◌, map, take, drop, ℤ, sym, ap, ◌∙◌, subst}
use Rattle.laws.specs.Lists.{first_at}
use Rattle.laws.specs.Lists as lists
use Rattle.laws.proofs.Lists.{map_take, map_drop, map_append}
use Rattle.types.specs.declared.error.ProducerError.{ProducerError}
use Rattle.types.specs.declared.error.ProducerError.TheVariants.{NotAnswerable}
use Rattle.types.specs.Ids.{of_receipt}
use Rattle.types.specs.declared.entry.OpSend.{OpSend}
use Rattle.types.specs.declared.types.MessageId.{MessageId}
use Rattle.queue.specs.Queue.{Queue, Outcome, done, refuse, refused, with_pending, with_ids}
use Rattle.queue.specs.Ids.{published}
use Rattle.queue.specs.Settle.{bears, answerable, found, unmark, settle, apply_receipt, apply_send_error}
use Rattle.queue.specs.Told.{told_error}
use Rattle.types.specs.declared.stats.SequenceIds.{SequenceIds}
use Rattle.plans.specs.State.{core_ids}
use Rattle.producer.specs.State.{State, state_of}
use Rattle.producer.specs.View.{queue_of, view}
use Rattle.producer.specs.Settle.{settles_at, Settles}
use Rattle.producer.specs.declared.state.ProducerState.{ProducerState}
use Rattle.producer.specs.Apply.{store_core}
use Rattle.producer.proofs.Settling.{Place, place, place_if, located_is}
use Rattle.types.specs.declared.types.MessageIdData.{MessageIdData}

pub map_without : {A B : Type 0} (f : A → B) (l : List A) (i : ℕ) → map f (lists.without l i) ≡ lists.without (map f l) i
map_without f l i = map_append f (take i l) (drop (i + 1) l) ∙ (λ j. map_take f i l j ++ map_drop f (i + 1) l j)

-- the answer with what a call makes of the entry, and the queue with what it changes besides
module _ {A : Type 0} (id : ℕ) (s : ProducerState) (give : OpSend → A) (change : Queue → Queue) where
  -- refused, the state is the very state; settled, it is changed besides
  abbrev pub Outcomes : Result OpSend ProducerError → ProducerState → Outcome A → Type 0
  Outcomes (Ok op) t o = ◌≡◌ {A = Outcome A} (change (view t), done (give op)) o
  Outcomes (Err e) t o = (◌≡◌ {A = Outcome A} (view t, told_error e) o) × (t ≡ s)

  refusal : (a : Result OpSend ProducerError) (t : ProducerState) → (a ≡ Err NotAnswerable) × (t ≡ s) → Outcomes a t (refuse 11 (view s))
  refusal a t h = subst (λ (x : Result OpSend ProducerError). Outcomes x t (refuse 11 (view s))) (sym h.0) ((λ j. (view (h.1 j), refused 11 [])), h.1)

  by : (a : Result OpSend ProducerError) (t : ProducerState) (b : Bool) (o : Option ℕ) → Place id (view s).pending o → settles_at id s a t (place_if b o)
      → Outcomes a t (settle id give change (view s) b (found id (view s).pending))
  by a t false o p h = refusal a t h
  by a t true None p h = rw p (refusal a t h)
  by a t true (Some i) p h =
      let l = (view s).pending in
      let op = h.0 in
      let left = map_without (unmark id) l i in
      let gone = ap (map (unmark id)) p.1 ∙ left in
      rw (p.0 op ∙ ap Some h.3, h.2) (λ j. (change ((h.4 ∙ ap (λ (x : List OpSend). with_pending x (view s)) (sym gone)) j), done (give op)))

  outcomes : (a : Result OpSend ProducerError) (t : ProducerState) → Settles id s a t
      → Outcomes a t (settle id give change (view s) (answerable id (view s).pending) (found id (view s).pending))
  outcomes a t h =
      by a t (answerable id (view s).pending) (first_at (bears id) 0 (view s).pending) (place id (view s).pending)
      (subst (settles_at id s a t) (located_is id (view s).pending) h)

-- other ids
abbrev pub ids_stored : State → SequenceIds → State
ids_stored s ids = store_core (core_ids ids s.core) s

module _ (id : ℕ) (s t : ProducerState) where
  -- a receipt: the published number, and the message id beside the entry
  pub received : (m : Option MessageIdData) (op : OpSend) → Settles id s (Ok op) t
      → ◌≡◌ {A = Outcome (OpSend × MessageId)} (queue_of (ids_stored (state_of t) (published id (state_of t).core.ids)), done (op, of_receipt m)) (apply_receipt id m (view s))
  unfolding apply_receipt queue_of
  received m op h = outcomes id s (λ (x : OpSend). (x, of_receipt m)) (λ p. with_ids (published id p.ids) p) (Ok op) t h

  pub not_received : (m : Option MessageIdData) (x : ProducerError) → Settles id s (Err x) t
      → (◌≡◌ {A = Outcome (OpSend × MessageId)} (view t, told_error x) (apply_receipt id m (view s))) × (t ≡ s)
  unfolding apply_receipt
  not_received m x h = outcomes id s (λ (y : OpSend). (y, of_receipt m)) (λ p. with_ids (published id p.ids) p) (Err x) t h

  -- an error: the code beside the entry
  pub failed : (code : ℤ) (op : OpSend) → Settles id s (Ok op) t → ◌≡◌ {A = Outcome (OpSend × ℤ)} (view t, done (op, code)) (apply_send_error id code (view s))
  unfolding apply_send_error
  failed code op h = outcomes id s (λ (x : OpSend). (x, code)) (λ p. p) (Ok op) t h

  pub not_failed : (code : ℤ) (x : ProducerError) → Settles id s (Err x) t
      → (◌≡◌ {A = Outcome (OpSend × ℤ)} (view t, told_error x) (apply_send_error id code (view s))) × (t ≡ s)
  unfolding apply_send_error
  not_failed code x h = outcomes id s (λ (y : OpSend). (y, code)) (λ p. p) (Err x) t h
