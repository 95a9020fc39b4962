-- A flush: the stores of its plan make the queue of the definition. Assumes nothing.
use Rattle.std.specs.Prelude.{Err, Ok, Result, ℕ}
use Rattle.std.proofs.Common.{◌≡◌, ℕ, ◌+◌, Bool, true, false, ltb, refl, sym, ap, subst, ◌∙◌}
use Rattle.laws.specs.Choice.{pick}
use Rattle.types.specs.Empty.{empty_batch}
use Rattle.types.specs.declared.batch.BatchContainer.{BatchContainer}
use Rattle.types.specs.declared.error.ProducerError.TheVariants.{OutboundFull}
use Rattle.queue.specs.Queue.{Queue, Outcome, done, refuse, with_out}
use Rattle.queue.specs.Batch.{batch_record, with_batch, is_empty, flushed, flush_batch}
use Rattle.queue.specs.Send.{flush_if}
use Rattle.queue.specs.Sizes.{outbound_size}
use Rattle.queue.specs.Told.{told, told_error, Kept}
use Rattle.plans.specs.Delta.{counted_core}
use Rattle.plans.specs.Batch.{flushed_core, flushed_if, flush_of, flush_planned}
use Rattle.plans.specs.declared.delta.FlushDelta.{FlushDelta}
use Rattle.producer.specs.View.{queue_of}
use Rattle.producer.specs.Push.{after}
use Rattle.producer.specs.Apply.{store_core, store_frame}
use Rattle.producer.specs.State.{State}
use Rattle.producer.proofs.Full.{Full, full_core, full_frame}
use Rattle.producer.proofs.Views.{pushes}
use Rattle.types.specs.declared.error.ProducerError.{ProducerError}

-- the queue with another open batch
abbrev pub batching : BatchContainer → Queue → Queue
batching b q = with_out (with_batch b q.out) q

module _ (s : State) (f : Full s) (t : ℕ) where
  pub flushes : queue_of (after (flushed_core t s.core) s) ≡ flushed t (queue_of s)
  unfolding flushed queue_of
  flushes =
      let c = s.core in
      let k = counted_core c.batch.len c.batch.encoded_len c in
      ap (batching empty_batch) (pushes (store_core k s) (full_core s f k) (batch_record c.settings t c.batch) 1)

  pub flushes_if : (b : Bool) → queue_of (after (flushed_if b t s.core) s) ≡ flush_if b t (queue_of s)
  flushes_if true = flushes
  flushes_if false = refl

  pub full_flushed_lem : (b : Bool) → Full (after (flushed_if b t s.core) s)
  full_flushed_lem b = full_frame (store_core (flushed_if b t s.core).core s) (full_core s f (flushed_if b t s.core).core) (flushed_if b t s.core).put

  -- what a plan of a flush says of the state that it is applied to
  abbrev pub Flushes : FlushDelta → State → Outcome ℕ → Type 0
  Flushes d r o = ◌≡◌ {A = Outcome ℕ} (queue_of r, told d.answer) o × Kept (told d.answer) s r

  abbrev pub stored : FlushDelta → State
  stored d = store_frame d.frame (store_core d.core s)

  pub plan_flushes : Flushes (flush_planned t s.core) (stored (flush_planned t s.core)) (flush_batch t (queue_of s))
  unfolding flush_batch queue_of
  plan_flushes = go (is_empty s.core.batch) s.core.settings.switches.closed (ltb outbound_size (s.core.rings.waiting + 1))
    where
      of : Result ℕ ProducerError → FlushDelta
      of answer = flush_of answer t s.core

      go : (b1 b2 b3 : Bool)
          → Flushes (of (pick b1 (Ok 0) (pick b2 (Ok 0) (pick b3 (Err OutboundFull) (Ok 1)))))
          (stored (of (pick b1 (Ok 0) (pick b2 (Ok 0) (pick b3 (Err OutboundFull) (Ok 1))))))
          (pick b1 (queue_of s, done 0) (pick b2 (queue_of s, done 0) (pick b3 (refuse 4 (queue_of s)) (flushed t (queue_of s), done 1))))
      go true b2 b3 = (refl, tt)
      go false true b3 = (refl, tt)
      go false false true = (refl, refl)
      go false false false = ((λ j. (flushes j, done 1)), tt)

  -- a flush that goes through, and one that is refused
  module _ (d : FlushDelta) (e : d ≡ flush_planned t s.core) where
    planned : Flushes d (stored d) (flush_batch t (queue_of s))
    planned = subst (λ (k : FlushDelta). Flushes k (stored k) (flush_batch t (queue_of s))) (sym e) plan_flushes

    pub flush_done : (n : ℕ) → d.answer ≡ Ok n → ◌≡◌ {A = Outcome ℕ} (queue_of (stored d), done n) (flush_batch t (queue_of s))
    flush_done n a = (λ j. (queue_of (stored d), told (sym a j))) ∙ planned.0

    pub flush_refused : (x : ProducerError) → d.answer ≡ Err x → ◌≡◌ {A = Outcome ℕ} (queue_of s, told_error x) (flush_batch t (queue_of s))
    flush_refused x a =
        let kept : stored d ≡ s = subst (λ (r : Result ℕ ProducerError). Kept (told r) s (stored d)) a planned.1 in
        (λ j. (queue_of (sym kept j), told (sym a j))) ∙ planned.0
