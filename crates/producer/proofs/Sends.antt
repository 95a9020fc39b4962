-- A send: the stores of its plan make the queue of the definition, and its answer is the definition's. Each way is a run of pushes. Assumes nothing.
use Rattle.std.specs.Prelude.{Err, Ok, Result}
use Rattle.std.proofs.Common.{◌≡◌, ℕ, ◌+◌, ◌*◌, min, Bool, true, false, not, ◌&&◌, ltb, leb, length, pos, sym, refl, ap, ◌∙◌, subst}
use Rattle.laws.specs.Choice.{pick}
use Rattle.laws.specs.Numbers.{add_sat}
use Rattle.laws.proofs.Choice.{pick_ind}
use Rattle.types.specs.declared.entry.Publish.{Publish}
use Rattle.types.specs.declared.entry.Replay.TheVariants as replay
use Rattle.types.specs.declared.error.ProducerError.TheVariants.{Closed, PartOutside, OverBound, OutboundFull, HeldFull, PendingFull}
use Rattle.types.specs.declared.frame.FrameKind.{FrameKind}
use Rattle.types.specs.declared.frame.FrameKind.TheVariants as kind
use Rattle.types.specs.declared.answer.SendDecision.{SendDecision}
use Rattle.types.specs.declared.error.ProducerError.{ProducerError}
use Rattle.types.specs.declared.way.Way.{Way}
use Rattle.types.specs.declared.way.Way.TheVariants.{TooLarge, Join, Single, Chunked}
use Rattle.queue.specs.Queue.{Queue, Outcome, with_out}
use Rattle.queue.specs.Batch.{at_least_one, grown, is_full, may_join, single_of}
use Rattle.queue.specs.Send as send
use Rattle.queue.specs.Sizes.{outbound_size, held_size, pending_size}
use Rattle.queue.specs.Told.{told_send}
use Rattle.plans.specs.Delta.{counted_core, accepted}
use Rattle.plans.specs.Batch.{flushed_if}
use Rattle.plans.specs.Choose.{chosen, chosen_within}
use Rattle.plans.specs.Send.{publish_of, frame_of, emitted, singled, joined, chunked, joined_after, followed, plan_out, planned, SendDelta}
use Rattle.plans.specs.declared.send.Sending.{Sending}
use Rattle.producer.specs.View.{queue_of, entry_of}
use Rattle.producer.specs.Apply.{store_core, store_entry, applied}
use Rattle.producer.specs.Push.{after, emitted_state, joined_state}
use Rattle.producer.specs.Send.{sending, KeptSend, Stays}
use Rattle.producer.specs.State.{State}
use Rattle.producer.specs.declared.state.ProducerState.{ProducerState}
use Rattle.producer.proofs.Full.{Full, full_core, full_entry, full_held}
use Rattle.producer.proofs.Views.{holding, pushes, holds, accepts, held_length, pending_length}
use Rattle.producer.proofs.Flushes.{batching, flushes_if, full_flushed_lem}

-- what the definition calls a sending
abbrev pub brought : Sending → send.Sending
brought a = sending a.message a.reservation.bytes a.uuid a.publish_time a.now

-- ── one message ──

module _ (s : State) (f : Full s) where
  emits : (p : Publish) (k : FrameKind) (frames messages bytes : ℕ)
      → queue_of (emitted_state (emitted p k frames messages bytes s.core) s)
      ≡ send.emit (frame_of s.core.ids.next_sequence_id.0 p k) frames messages bytes (send.accept (entry_of s.core.ids.next_sequence_id 1 p) (queue_of s))
  unfolding queue_of
  emits p k frames messages bytes =
      let c = s.core in
      let e = accepted p c in
      let r = frame_of c.ids.next_sequence_id.0 p k in
      let s1 = store_entry e.put (store_core e.core s) in
      let f1 = full_entry (store_core e.core s) (full_core s f e.core) e.put in
      let c2 = counted_core messages bytes e.core in
      pushes (store_core c2 s1) (full_core s1 f1 c2) r frames ∙ ap (send.emit r frames messages bytes) (accepts s f p)

  singles : (a : Sending) → queue_of (emitted_state (singled a s.core) s) ≡ send.emit_single (brought a) (queue_of s)
  unfolding send.emit_single queue_of
  singles a =
      let n = at_least_one a.message.num_messages in
      emits (publish_of a (pos n) replay.Single s.core) kind.Single 1 n a.message.payload.len

  chunks : (a : Sending) (size count : ℕ) → queue_of (emitted_state (chunked a size count s.core) s) ≡ send.emit_chunked (brought a) size count (queue_of s)
  unfolding send.emit_chunked queue_of
  chunks a size count =
      emits (publish_of a (pos 1) (replay.Chunked count size) s.core)
      (kind.Chunked (record { total_chunks = count; next_chunk = 0; max_chunk_size = size }))
      count
      count
      (min a.message.payload.len (count * size))

  joins : (a : Sending) → queue_of (joined_state (joined a s.core) s) ≡ send.add_to_batch (brought a) (queue_of s)
  unfolding send.add_to_batch queue_of
  joins a =
      let c = s.core in
      let p = publish_of a (pos 1) replay.Batched c in
      let e = accepted p c in
      let s1 = store_entry e.put (store_core e.core s) in
      let f1 = full_entry (store_core e.core s) (full_core s f e.core) e.put in
      let b = grown a.message c.ids.next_sequence_id.0 a.now c.batch in
      let m = single_of a.message in
      ap (batching b) (holds s1 f1 m ∙ ap (λ (q : Queue). with_out (holding m q.out) q) (accepts s f p))

  full_joined : (a : Sending) → Full (joined_state (joined a s.core) s)
  full_joined a =
      let j = joined a s.core in
      full_held (store_entry j.entry (store_core j.core s)) (full_entry (store_core j.core s) (full_core s f j.core) j.entry) j.held

-- ── a way ──

module _ (s : State) (f : Full s) (a : Sending) (old new : ProducerState) where
  -- what a plan of a send says of the state that it is applied to, and of the rows that it leaves
  abbrev pub Sends : SendDelta → Outcome send.Decision → Type 0
  Sends d o =
      ◌≡◌ {A = Outcome send.Decision} (queue_of (applied d s), told_send d.answer) o
      × KeptSend a.message (queue_of s) (told_send d.answer) old new

  -- a way is carried out
  abbrev Follows : Way → Type 0
  Follows w = Stays w old new → Sends (followed w a s.core) (send.follow (brought a) w (queue_of s), send.answer_of (brought a) (queue_of s) w)

  -- the rows that a decision leaves: a refusal changes none
  abbrev Leaves : Result Way ProducerError → Type 0
  Leaves (Err x) = new ≡ old
  Leaves (Ok w) = Stays w old new

  -- after the flush before
  flushed_state : Bool → State
  flushed_state before = after (flushed_if before a.publish_time s.core) s

  one_way : (before : Bool) → queue_of (flushed_state before) ≡ send.flush_if before a.publish_time (queue_of s)
  unfolding flushed_state
  one_way before = flushes_if s f a.publish_time before

  large : (before : Bool) → before ≡ send.flushes_before s.core.settings a.message s.core.batch → Follows (TooLarge before)
  unfolding followed send.follow flushed_state queue_of
  large before e same = ((λ j. (one_way before j, send.answer_of (brought a) (queue_of s) (TooLarge before))), (λ h. same (e ∙ h)))

  single : (before : Bool) → Follows (Single before)
  unfolding followed send.follow flushed_state
  single before same = (
    (λ j. (
      (singles (flushed_state before) (full_flushed_lem s f a.publish_time before) a ∙ ap (send.emit_single (brought a)) (one_way before)) j,
      send.answer_of (brought a) (queue_of s) (Single before),
    )),
    tt,
  )

  cut : (before : Bool) (size count : ℕ) → Follows (Chunked before size count)
  unfolding followed send.follow flushed_state
  cut before size count same = (
    (λ j. (
      (chunks (flushed_state before) (full_flushed_lem s f a.publish_time before) a size count
          ∙ ap (send.emit_chunked (brought a) size count) (one_way before))
          j,
      send.answer_of (brought a) (queue_of s) (Chunked before size count),
    )),
    tt,
  )

  -- the batch is full after the join where the decision has said so
  fills : Bool → Bool
  fills before =
      let b = send.left_of s.core.settings a.message before s.core.batch in
      is_full s.core.settings (add_sat b.len 1) (add_sat b.current_size_bytes a.message.payload.len)

  join : (before : Bool) → Follows (Join before (fills before))
  unfolding followed send.follow flushed_state fills
  join before same = (λ j. (go before j, send.answer_of (brought a) (queue_of s) (Join before true)), tt)
    where
      go : (before : Bool)
          → queue_of (applied (joined_after before a s.core) s)
          ≡ send.flush_if (fills before) a.publish_time (send.add_to_batch (brought a) (send.flush_if before a.publish_time (queue_of s)))
      go true =
          let s1 = flushed_state true in
          let f1 = full_flushed_lem s f a.publish_time true in
          flushes_if (joined_state (joined a s1.core) s1) (full_joined s1 f1 a) a.publish_time (fills true)
          ∙ ap (send.flush_if (fills true) a.publish_time) (joins s1 f1 a ∙ ap (send.add_to_batch (brought a)) (one_way true))
      go false =
          let s1 = flushed_state false in
          let f1 = full_flushed_lem s f a.publish_time false in
          flushes_if (joined_state (joined a s1.core) s1) (full_joined s1 f1 a) a.publish_time (fills false)
          ∙ ap (send.flush_if (fills false) a.publish_time) (joins s1 f1 a ∙ ap (send.add_to_batch (brought a)) (one_way false))

  -- every way that the decision takes
  takes : Follows (send.way_of s.core.settings a.message s.core.batch)
  unfolding fills
  takes =
      let k = s.core in
      let m = a.message in
      let before = send.flushes_before k.settings m k.batch in
      let b = send.left_of k.settings m before k.batch in
      pick_ind Follows (send.large k.settings m && not k.settings.switches.chunking_enabled) _ _
      (λ e. large before refl)
      (λ e.
      pick_ind Follows (may_join k.settings b m) _ _
      (λ e. join before)
      (λ e. pick_ind Follows (send.large k.settings m) _ _ (λ e. cut before _ _) (λ e. single before)))

  -- ── the refusals ──

  -- the definition's plan, by the numbers of messages held and entries pending
  plan_by : ℕ → ℕ → ℕ → send.Plan
  plan_by n held_count pendingCount =
      let k = s.core in
      let m = a.message in
      let w = send.way_of k.settings m k.batch in
      pick k.settings.switches.closed (send.no 1)
      (pick (not (send.message_in n m m.payload)) (send.no 2)
      (pick (not (send.within_bounds m a.reservation.bytes)) (send.no 3)
      (pick (ltb outbound_size (k.rings.waiting + send.pushes w)) (send.no 4)
      (pick (send.joins w && leb held_size held_count) (send.no 5)
      (pick (send.is_too_large w) (send.go w)
      (pick (leb pending_size pendingCount) (send.no 7)
      (send.go w)))))))

  abbrev decided : (b1 b2 b3 b4 b5 b6 b7 : Bool) → Way → Result Way ProducerError
  decided b1 b2 b3 b4 b5 b6 b7 w =
      pick b1 (Err Closed)
      (pick b2 (Err PartOutside)
      (pick b3 (Err OverBound)
      (pick b4 (Err OutboundFull)
      (pick b5 (Err HeldFull)
      (pick (not b6 && b7) (Err PendingFull)
      (Ok w))))))

  chain : (b1 b2 b3 b4 b5 b6 b7 : Bool) (w : Way) → Follows w → Leaves (decided b1 b2 b3 b4 b5 b6 b7 w)
      → Sends
      (plan_out (decided b1 b2 b3 b4 b5 b6 b7 w) a s.core)
      (send.carried_out (brought a) (queue_of s)
      (pick b1 (send.no 1)
      (pick b2 (send.no 2)
      (pick b3 (send.no 3)
      (pick b4 (send.no 4)
      (pick b5 (send.no 5)
      (pick b6 (send.go w)
      (pick b7 (send.no 7)
      (send.go w)))))))))
  chain true b2 b3 b4 b5 b6 b7 w h same = (refl, λ e. same)
  chain false true b3 b4 b5 b6 b7 w h same = (refl, λ e. same)
  chain false false true b4 b5 b6 b7 w h same = (refl, λ e. same)
  chain false false false true b5 b6 b7 w h same = (refl, λ e. same)
  chain false false false false true b6 b7 w h same = (refl, λ e. same)
  chain false false false false false true b7 w h same = h same
  chain false false false false false false true w h same = (refl, λ e. same)
  chain false false false false false false false w h same = h same

  plan_is : (n : ℕ) → plan_by n (length (queue_of s).out.held) (length (queue_of s).pending) ≡ send.plan n (brought a) (queue_of s)
  unfolding send.plan plan_by queue_of
  plan_is n = refl

  plan_sends : (n : ℕ) → Leaves (chosen n a.message a.reservation.bytes s.core) → Sends (planned n a s.core) (send.queue_send n (brought a) (queue_of s))
  unfolding planned chosen chosen_within send.queue_send plan_by
  plan_sends n same =
      let k = s.core in
      let m = a.message in
      let w = send.way_of k.settings m k.batch in
      let d = planned n a k in
      let q = queue_of s in
      subst (λ (p : send.Plan). Sends d (send.carried_out (brought a) q p)) (plan_is n)
      (subst (λ (l : ℕ). Sends d (send.carried_out (brought a) q (plan_by n l (length q.pending)))) (sym (held_length s f))
      (subst (λ (l : ℕ). Sends d (send.carried_out (brought a) q (plan_by n (min k.rings.held.len held_size) l))) (sym (pending_length s f))
      (chain
      k.settings.switches.closed
      (not (send.message_in n m m.payload))
      (not (send.within_bounds m a.reservation.bytes))
      (ltb outbound_size (k.rings.waiting + send.pushes w))
      (send.joins w && leb held_size (min k.rings.held.len held_size))
      (send.is_too_large w)
      (leb pending_size (min k.rings.pending.len pending_size))
      w
      takes
      same)))

  decides : (n : ℕ) (r : Result Way ProducerError) → chosen n a.message a.reservation.bytes s.core ≡ r → Leaves r
      → Sends (plan_out r a s.core) (send.queue_send n (brought a) (queue_of s))
  unfolding planned
  decides n r e same =
      subst (λ (x : Result Way ProducerError). Sends (plan_out x a s.core) (send.queue_send n (brought a) (queue_of s))) e (plan_sends n (subst Leaves (sym e) same))

  -- by the way that is chosen, and what is carried out of it
  pub send_done : (n : ℕ) (w : Way) → chosen n a.message a.reservation.bytes s.core ≡ Ok w → (answer : Result SendDecision ProducerError) (t : State)
      → t ≡ applied (followed w a s.core) s → answer ≡ (followed w a s.core).answer → Stays w old new
      → ◌≡◌ {A = Outcome send.Decision} (queue_of t, told_send answer) (send.queue_send n (brought a) (queue_of s))
      × KeptSend a.message (queue_of s) (told_send answer) old new
  send_done n w e answer t stored told same =
      let both = decides n (Ok w) e same in (
        (λ j. (queue_of (stored j), told_send (told j))) ∙ both.0,
        subst (λ (x : Result SendDecision ProducerError). KeptSend a.message (queue_of s) (told_send x) old new) (sym told) both.1,
      )

  pub send_refused : (n : ℕ) (x : ProducerError) → chosen n a.message a.reservation.bytes s.core ≡ Err x → new ≡ old
      → ◌≡◌ {A = Outcome send.Decision} (queue_of s, told_send (Err x)) (send.queue_send n (brought a) (queue_of s))
      × KeptSend a.message (queue_of s) (told_send (Err x)) old new
  send_refused n x e same = decides n (Err x) e same
