-- Demand 3, the order rule: nothing is lost, doubled, changed or put out of order (document 01, 'How demand 3 is read').
use Rattle.std.specs.Prelude.{ℕ, ◌≤◌, ◌≡◌, true, List, [], ◌∷◌, ◌++◌, Some}
use Rattle.types.specs.declared.types.ProducerHandle.{ProducerHandle}
use Rattle.queue.specs.Queue.{Queue, Answer, refused, done, new_queue}
use Rattle.queue.specs.Batch.{is_empty}
use Rattle.queue.specs.Frame.{Frame}
use Rattle.queue.specs.Read.{read}
use Rattle.queue.specs.Run.{Call, send, flush, take, receipt, send_error, timeouts, initial_id, set, set_name, close, query, drain, snapshot, replay, resend, step, after, taken, accepted, Waiting, AllRanged}

-- ── the premises ──

abbrev pub Refused : {A : Type 0} → Answer A → Type 0
Refused (refused n values) = Unit {0}
Refused (done x) = ⊥

-- a send has a message limit of at least 1; a drain, a snapshot or a replay is refused, or there is none
abbrev pub Covered : List ℕ → Queue → Call → Type 0
Covered store q (send a) = 1 ≤ q.settings.limits.max_message_size
Covered store q (flush publish_time) = Unit {0}
Covered store q (take room) = Unit {0}
Covered store q (receipt id message_id) = Unit {0}
Covered store q (send_error id code) = Unit {0}
Covered store q (timeouts now room) = Unit {0}
Covered store q (initial_id next) = Unit {0}
Covered store q (set s) = Unit {0}
Covered store q (set_name bytes) = Unit {0}
Covered store q close = Unit {0}
Covered store q (query k) = Unit {0}
Covered store q (drain room) = Refused (step store (drain room) q).1
Covered store q (snapshot droppedRoom replayRoom) = Refused (step store (snapshot droppedRoom replayRoom) q).1
Covered store q (replay entries) = Refused (step store (replay entries) q).1
Covered store q resend = Refused (step store resend q).1

-- each call in the queue that it finds
abbrev pub AllCovered : List ℕ → Queue → List Call → Type 0
AllCovered store q [] = Unit {0}
AllCovered store q (c ∷ cs) = Covered store q c × AllCovered store (step store c q).0 cs

pub record Premises (store : List ℕ) (handle : ProducerHandle) (cs : List Call) : Type 0 where
  -- a message limit of at least 1 at every send; no drain, snapshot or replay that is carried out
  pub covered : AllCovered store (new_queue handle) cs
  -- the batch is empty at the end: no message joined after the last flush that made a frame (`EmptiedRule`)
  pub emptied : is_empty (after store (new_queue handle) cs).out.batch ≡ true
  -- no premise of document 01: it only says that a number has its type's range
  pub ranged : AllRanged cs

-- ── the claim ──

pub record InOrder (store : List ℕ) (handle : ProducerHandle) (cs : List Call) : Type 0 where
  pub waiting : List Frame
  -- more takes yield these frames and then 10, and no others
  pub ends : Waiting store (after store (new_queue handle) cs) waiting
  pub only : (fs : List Frame) → Waiting store (after store (new_queue handle) cs) fs → fs ≡ waiting
  -- the list read and the accepted list are equal: in length and, place by place, in all that `Message` has
  pub reads : read (taken store (new_queue handle) cs ++ waiting) ≡ Some (accepted store (new_queue handle) cs)

-- for every store, every handle and every list of calls from a new producer
abbrev pub OrderRule : Type 0
OrderRule = (store : List ℕ) (handle : ProducerHandle) (cs : List Call) → Premises store handle cs → InOrder store handle cs

-- two lists of calls, of any two producers and stores, with the same frames: they accepted the same messages
abbrev pub SameFramesRule : Type 0
SameFramesRule =
    (store₁ store₂ : List ℕ) (handle₁ handle₂ : ProducerHandle) (cs₁ cs₂ : List Call) (waiting₁ waiting₂ : List Frame)
    → Premises store₁ handle₁ cs₁
    → Premises store₂ handle₂ cs₂
    → Waiting store₁ (after store₁ (new_queue handle₁) cs₁) waiting₁
    → Waiting store₂ (after store₂ (new_queue handle₂) cs₂) waiting₂
    → taken store₁ (new_queue handle₁) cs₁ ++ waiting₁ ≡ taken store₂ (new_queue handle₂) cs₂ ++ waiting₂
    → accepted store₁ (new_queue handle₁) cs₁ ≡ accepted store₂ (new_queue handle₂) cs₂
