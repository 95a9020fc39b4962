-- The stored count of the open batch is the number of messages that joined after the last flush that made a frame: each call moves both alike.
use Rattle.std.specs.Prelude.{Option, Some, None}
use Prim.Native.Nat.{ℕ, ◌+◌, ◌≤◌}
use mathlib.Core.Path.{◌≡◌, refl, sym, ap, ◌∙◌}
use mathlib.Core.Bool.{Bool, true, false, not, ◌||◌}
use mathlib.Core.List.{List, [], ◌∷◌, ◌++◌}
use native.Mathlib.Omega.{arith}
use lib.ListN.{length, take as firsts}
use lib.Dec.{ltb, leb}
use Rattle.laws.specs.Choice.{pick}
use Rattle.types.specs.Bounds.{longest_name}
use Rattle.types.specs.declared.entry.OpSend.{OpSend}
use Rattle.types.specs.declared.frame.FrameRecord.{FrameRecord}
use Rattle.types.specs.declared.way.Way.{Way}
use Rattle.types.specs.declared.way.Way.TheVariants as way
use Rattle.queue.specs.Queue.{Queue, Outcome, refused, done, refuse, new_queue, empty_outgoing, with_pending, with_ids, with_out}
use Rattle.types.specs.Ids.{of_receipt}
use Rattle.queue.specs.Settings as settings
use Rattle.queue.specs.Ids.{published, set_initial_sequence_id}
use Rattle.queue.specs.Batch.{is_empty, too_many, flushed, flush_batch}
use Rattle.queue.specs.Send.{Sending, answer_of, add_to_batch, emit_single, emit_chunked, follow, carried_out, queue_send}
use Rattle.queue.specs.Frame.{Frame, first_frame, frame_in}
use Rattle.queue.specs.Sizes.{held_size, pending_size}
use Rattle.queue.specs.Take.{take_from, next_outbound_frame}
use Rattle.queue.specs.Settle.{settle, settled, answerable, found, apply_receipt, apply_send_error, due_count, drain_timed_out_sends}
use Rattle.queue.specs.Tables.{batched_of, framed_of, all_well_formed, frames_for, unborne, drain_pending_sends, snapshot_pending_sends, replay_snapshots, replay_pending_outbound}
use Rattle.queue.specs.Run.{Call, send, flush, take, receipt, send_error, timeouts, initial_id, set, set_name, close, query, drain, snapshot, replay, resend, Gives, AllRanged, step, after}
use Rattle.queue.specs.Emptied.{Event, joined, made_frame, handed_out, of_send, events_of, events, joined_since, EmptiedRule}
use Rattle.laws.proofs.Choice.{pick_ind}
use Rattle.queue.proofs.Moves.{Well}
use Rattle.queue.proofs.Reached.{plan_cases, step_well, new_well}

joined_append : (n : ℕ) (a b : List Event) → joined_since n (a ++ b) ≡ joined_since (joined_since n a) b
joined_append n [] b = refl
joined_append n (joined ∷ a) b = joined_append (n + 1) a b
joined_append n (made_frame ∷ a) b = joined_append 0 a b
joined_append n (handed_out ∷ a) b = joined_append 0 a b

abbrev len_in : Queue → ℕ
len_in q = q.out.batch.len

-- a call moves the count as its events do
record Leaves (q : Queue) (c : Call) (r : Outcome (Gives c)) : Type 0 where
  len : len_in r.0 ≡ joined_since (len_in q) (events_of q c r.1)

-- the count does not stop at 2^64 - 1
follow_len : (a : Sending) (w : Way) (q : Queue) → len_in q ≤ held_size → len_in (follow a w q) ≡ joined_since (len_in q) (of_send w (answer_of a q w))
unfolding follow flushed add_to_batch emit_single emit_chunked
follow_len a (way.TooLarge true) q few = refl
follow_len a (way.TooLarge false) q few = refl
follow_len a (way.Join true true) q few = refl
follow_len a (way.Join true false) q few = refl
follow_len a (way.Join false true) q few = refl
follow_len a (way.Join false false) q few = omega arith
follow_len a (way.Single true) q few = refl
follow_len a (way.Single false) q few = refl
follow_len a (way.Chunked true size count) q few = refl
follow_len a (way.Chunked false size count) q few = refl

module _ (store : List ℕ) (q : Queue) (k : Well q) where
  take_len : (room : ℕ) (rs : List FrameRecord) → len_in (take_from store room q rs).0 ≡ len_in q
  take_len room [] = refl
  take_len room (r ∷ rs) =
      let P : Outcome Frame → Type 0 = λ x. len_in x.0 ≡ len_in q in
      pick_ind P (frame_in (length store) r r.kind q.out.held) _ _
      (λ y. pick_ind P (ltb room (length (first_frame store q.handle r r.kind q.out.held).payload)) _ _ (λ z. refl) (λ z. refl))
      (λ y. refl)

  settle_len : {A : Type 0} (id : ℕ) (give : OpSend → A) (change : Queue → Queue) → ((p : Queue) → len_in (change p) ≡ len_in p)
      → (b : Bool) (op : Option OpSend) → len_in (settle id give change q b op).0 ≡ len_in q
  settle_len id give change e true (Some op) = e (with_pending (settled id q.pending) q)
  settle_len id give change e true None = refl
  settle_len id give change e false op = refl

  flush_len : (time : ℕ) (x y z : Bool) → Leaves q (flush time) (pick x (q, done 0) (pick y (q, done 0) (pick z (refuse 4 q) (flushed time q, done 1))))
  unfolding flushed
  flush_len time true y z = record { len = refl }
  flush_len time false true z = record { len = refl }
  flush_len time false false true = record { len = refl }
  flush_len time false false false = record { len = refl }

  -- a table that is refused, or handed out
  table_len : (c : Call) (b : Bool) (p : Queue) (x : Gives c) → len_in p ≡ 0
      → joined_since (len_in q) (events_of q c (refused 9 [])) ≡ len_in q → joined_since (len_in q) (events_of q c (done x)) ≡ 0
      → Leaves q c (pick b (refuse 9 q) (p, done x))
  table_len c true p x e stays empties = record { len = sym stays }
  table_len c false p x e stays empties = record { len = e ∙ sym empties }

  step_len : (c : Call) → Leaves q c (step store c q)
  unfolding queue_send flush_batch flushed next_outbound_frame apply_receipt apply_send_error drain_timed_out_sends set_initial_sequence_id settings.set settings.set_name settings.close drain_pending_sends snapshot_pending_sends replay_snapshots replay_pending_outbound
  step_len (send a) =
      plan_cases (length store) a q (λ p. Leaves q (send a) (carried_out a q p))
      (λ n not-six. record { len = rw not-six })
      (λ i b passed. record { len = follow_len a _ q (omega (arith, k.out.shared, k.out.held)) })
  step_len (flush time) = flush_len time (is_empty q.out.batch) q.settings.switches.closed (too_many 1 q)
  step_len (take room) = record { len = take_len room q.out.frames }
  step_len (receipt id message_id) =
      record { len = settle_len id (λ (op : OpSend). (op, of_receipt message_id)) (λ (p : Queue). with_ids (published id p.ids) p) (λ p. refl) (answerable id q.pending) (found id q.pending) }
  step_len (send_error id code) =
      record { len = settle_len id (λ (op : OpSend). (op, code)) (λ (p : Queue). p) (λ p. refl) (answerable id q.pending) (found id q.pending) }
  step_len (timeouts now room) =
      pick_ind (Leaves q (timeouts now room)) (ltb room (length (firsts (due_count now q.settings.delays.send_timeout q.pending) q.pending))) _ _
      (λ x. record { len = refl })
      (λ x. record { len = refl })
  step_len (initial_id n) = record { len = refl }
  step_len (set s) = pick_ind (Leaves q (set s)) (settings.allowed s) _ _ (λ x. record { len = refl }) (λ x. record { len = refl })
  step_len (set_name bytes) =
      pick_ind (Leaves q (set_name bytes)) (leb (length bytes) longest_name) _ _ (λ x. record { len = refl }) (λ x. record { len = refl })
  step_len close = record { len = refl }
  step_len (query x) = record { len = refl }
  step_len (drain room) = table_len (drain room) (ltb room (length q.pending)) (with_out empty_outgoing (with_pending [] q)) _ refl refl refl
  step_len (snapshot droppedRoom replayRoom) =
      table_len (snapshot droppedRoom replayRoom) (ltb droppedRoom (length (batched_of q.pending)) || ltb replayRoom (length (framed_of q.pending))) _ _
      refl refl refl
  step_len (replay l) =
      let P : Outcome (Unit {0}) → Type 0 = Leaves q (replay l) in
      pick_ind P (not (all_well_formed l)) _ _ (λ x. record { len = refl })
      (λ x. pick_ind P (ltb pending_size (length l + length q.pending)) _ _ (λ y. record { len = refl })
      (λ y. pick_ind P (too_many (frames_for l) q) _ _ (λ z. record { len = refl }) (λ z. record { len = refl })))
  step_len resend =
      pick_ind (Leaves q resend) (too_many (frames_for (unborne q.out.frames q.pending)) q) _ _ (λ z. record { len = refl }) (λ z. record { len = refl })

run_len : (store : List ℕ) (cs : List Call) (q : Queue) → Well q → AllRanged cs
    → len_in (after store q cs) ≡ joined_since (len_in q) (events store q cs)
unfolding after events
run_len store [] q k is64 = refl
run_len store (c ∷ cs) q k is64 =
    let r = step store c q in
    run_len store cs r.0 (step_well store q k c is64.0) is64.1
    ∙ ap (λ (n : ℕ). joined_since n (events store r.0 cs)) (step_len store q k c).len
    ∙ sym (joined_append (len_in q) (events_of q c r.1) (events store r.0 cs))

pub emptied_rule : EmptiedRule
emptied_rule store handle cs is64 = run_len store cs (new_queue handle) (new_well handle) is64
