-- Why the frame of `first_message` reads back as the message: where one was taken, the send was accepted, no other frame waits and no message
-- is in the open batch, so that the order rule speaks of that frame alone. Assumes nothing.
use Rattle.std.specs.Prelude.{Err, Ok, Result, Some}
use Rattle.std.specs.Result.{IfOk}
use Rattle.std.proofs.Common.{◌≡◌, ℕ, Bool, true, false, ◌&&◌, not, List, [], ◌∷◌, length, ltb, refl, sym, ap, ◌∙◌, subst, append-nil, arith}
use Rattle.laws.proofs.Choice.{pick_ind, false_true}
use Rattle.types.specs.declared.error.ProducerError.{ProducerError}
use Rattle.types.specs.declared.frame.FrameRecord.{FrameRecord}
use Rattle.types.specs.declared.outbound.OutboundFrame.{OutboundFrame}
use Rattle.types.specs.declared.settings.Setting.TheVariants.{BatchingEnabled}
use Rattle.types.specs.declared.types.ProducerHandle.{ProducerHandle}
use Rattle.types.specs.declared.way.Way.{Way}
use Rattle.types.specs.declared.way.Way.TheVariants.{Join, Single}
use Rattle.queue.specs.Queue.{Queue, Outcome, new_queue}
use Rattle.queue.specs.Settings as settings
use Rattle.queue.specs.Batch.{is_empty, may_join, can_add_to_batch, flushed, flush_batch}
use Rattle.queue.specs.Send.{Sending, Decision, large, flushes_before, go, follow, add_to_batch, emit_single, carried_out, queue_send}
use Rattle.queue.specs.Frame.{Frame, first_frame, frame_in}
use Rattle.queue.specs.Take.{rest_of, next_outbound_frame}
use Rattle.queue.specs.Message.{Message, message_of}
use Rattle.queue.specs.Read.{read}
use Rattle.queue.specs.Run.{Call, set, send, flush, take, frame_of, accepted_by, after, taken, accepted, Is64, Waiting, none_waits}
use Rattle.queue.proofs.Reached.{send_cases}
use Rattle.producer.specs.Runs.{RunOfNew}
use Rattle.producer.specs.Take.{frame_told, told_frame}
use Rattle.producer.specs.View.{view}
use Rattle.producer.specs.declared.state.ProducerState.{ProducerState}
use Rattle.producer.proofs.Runs.{of_new, code_in_order}

module _ (store : List ℕ) (room : ℕ) where
  -- no message in the open batch, and no frame waiting
  record Over (q : Queue) : Type 0 where
    emptied : is_empty q.out.batch ≡ true
    waits : Waiting store q []

  -- the only record that waits leaves with its frame
  took : (q : Queue) {r : FrameRecord} (f : Frame) → q.out.frames ≡ r ∷ [] → rest_of r r.kind [] ≡ [] → is_empty q.out.batch ≡ true
      → frame_of (take room) (next_outbound_frame store room q).1 ≡ f ∷ [] → Over (next_outbound_frame store room q).0
  unfolding next_outbound_frame
  took q {r} f only alone emptied =
      let P : Outcome Frame → Type 0 = λ o. frame_of (take room) o.1 ≡ f ∷ [] → Over o.0 in
      let payload = (first_frame store q.handle r r.kind q.out.held).payload in
      rw only
      (pick_ind P (frame_in (length store) r r.kind q.out.held) _ _
      (λ i. pick_ind P (ltb room (length payload)) _ _ (λ l h. cc)
      (λ l h. record { emptied = emptied; waits = none_waits 0 (rw alone) }))
      (λ i h. cc))

  module _ (handle : ProducerHandle) (a : Sending) (f : Frame) where
    abbrev batching : Queue
    batching = (settings.set (BatchingEnabled true) (new_queue handle)).0

    -- of a send: where the flush and the take behind it give the frame, the message was accepted
    abbrev Gives : Outcome Decision → Type 0
    Gives o =
        let r = next_outbound_frame store room (flush_batch a.publish_time o.0).0 in
        frame_of (take room) r.1 ≡ f ∷ [] → (accepted_by store (send a) o.1 ≡ message_of store a.message ∷ []) × Over r.0

    abbrev goes : Way → Type 0
    goes w = Gives (carried_out a batching (go w))

    abbrev flushed_after : Way → Queue
    flushed_after w = (flush_batch a.publish_time (carried_out a batching (go w)).0).0

    joined : (full : Bool) → goes (Join false full)
    unfolding settings.set follow add_to_batch flushed flush_batch
    joined true = λ h. (refl, took (flushed_after (Join false true)) f refl refl refl h)
    joined false = λ h. (refl, took (flushed_after (Join false false)) f refl refl refl h)

    sent : Gives (queue_send (length store) a batching)
    unfolding settings.set flushes_before can_add_to_batch follow emit_single flush_batch next_outbound_frame
    sent =
        let q = batching in
        let t = q.settings in
        let m = a.message in
        send_cases (length store) a q Gives (λ n h. cc)
        (λ i b p. pick_ind goes (large t m && not t.switches.chunking_enabled) _ _ (λ l h. cc)
        (λ l. pick_ind goes (may_join t q.out.batch m) _ _ (λ j. joined _)
        (λ j. pick_ind goes (large t m) _ _ (λ x. false_true (sym (rw x at l))) (λ x h. (refl, took (flushed_after (Single false)) f refl refl refl h)))))

  abbrev pub calls : Sending → List Call
  calls a = set (BatchingEnabled true) ∷ send a ∷ flush a.publish_time ∷ take room ∷ []

  frame_reads : (handle : ProducerHandle) (a : Sending) (u : ProducerState) (f : Frame) (ms : List Message) → Is64 a.message.event_time
      → RunOfNew store handle (calls a) u (f ∷ []) ms → read (f ∷ []) ≡ Some (message_of store a.message ∷ [])
  unfolding after taken accepted settings.set
  frame_reads handle a u f ms is64 run =
      let r = of_new run in
      let s = sent handle a f (sym (r.frames ∙ append-nil _)) in
      let waits : Waiting store (view u) [] = subst (λ (q : Queue). Waiting store q []) (sym r.state) s.1.waits in
      code_in_order store handle (calls a) u (f ∷ []) [] ms run
      (record { covered = (tt, (omega arith, (tt, (tt, tt)))); emptied = s.1.emptied; ranged = (tt, (is64, (tt, (tt, tt)))) })
      waits
      ∙ ap Some (r.messages ∙ append-nil _ ∙ s.0)

  pub reads_back : (buffer : List ℕ) (handle : ProducerHandle) (a : Sending) (u : ProducerState) (ms : List Message) → Is64 a.message.event_time
      → (o : Result OutboundFrame ProducerError) → RunOfNew store handle (calls a) u (frame_of (take room) (told_frame store buffer o)) ms
      → IfOk o (λ (f : OutboundFrame). read (frame_told store buffer f ∷ []) ≡ Some (message_of store a.message ∷ []))
  reads_back buffer handle a u ms is64 (Ok f) run = frame_reads handle a u (frame_told store buffer f) ms is64 run
  reads_back buffer handle a u ms is64 (Err e) run = tt
