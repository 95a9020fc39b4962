-- Each call keeps what holds: a send goes its way, a take moves one frame, and the others leave what goes out alone.
use Rattle.std.specs.Prelude.{Option, Some, None}
use Prim.Native.Nat.{ℕ, ◌+◌}
use mathlib.Core.Path.{◌≡◌, refl}
use mathlib.Core.Bool.{Bool, true, false, not, ◌||◌}
use mathlib.Core.List.{List, [], ◌∷◌, ◌++◌, append_assoc, append-nil}
use lib.ListN.{length, take as firsts}
use lib.Dec.{ltb, leb}
use borrow.Author.Tests.{ltb-false}
use Rattle.laws.specs.Choice.{pick}
use Rattle.types.specs.Bounds.{longest_name}
use Rattle.types.specs.declared.entry.OpSend.{OpSend}
use Rattle.queue.specs.Queue.{Queue, Outcome, done, refuse, with_pending, with_ids}
use Rattle.types.specs.Ids.{of_receipt}
use Rattle.queue.specs.Settings as settings
use Rattle.queue.specs.Ids.{published, set_initial_sequence_id}
use Rattle.queue.specs.Batch.{is_empty, flushed, too_many, flush_batch}
use Rattle.queue.specs.Frame.{Frame}
use Rattle.queue.specs.Sizes.{outbound_size, pending_size}
use Rattle.queue.specs.Take.{next_outbound_frame}
use Rattle.queue.specs.Settle.{settle, settled, answerable, found, apply_receipt, apply_send_error, due_count, drain_timed_out_sends}
use Rattle.queue.specs.Tables.{drain_pending_sends, batched_of, framed_of, snapshot_pending_sends, all_well_formed, frames_for, replay_snapshots, unborne, replay_pending_outbound}
use Rattle.queue.specs.Message.{Message}
use Rattle.queue.specs.Run.{Call, send, flush, take, receipt, send_error, timeouts, initial_id, set, set_name, close, query, drain, snapshot, replay, resend, Ranged, Gives, step, frame_of, accepted_by}
use Rattle.queue.specs.Order.{Refused, Covered}
use Rattle.queue.specs.Chunks.{EmitsNone}
use Rattle.laws.proofs.Choice.{pick_ind}
use Rattle.queue.proofs.Moves.{Well}
use Rattle.queue.proofs.Groups.{Group, frames_all, Next, next, none_left}
use Rattle.queue.proofs.Sends.{Holds}
use Rattle.queue.proofs.SendSteps.{Keeps, plain_keeps, grows_none, still, flush_if_holds, send_holds}

module _ (store : List ℕ) (q : Queue) (took : List Frame) (acc : List Message) (all : List Frame)
    (k : Holds store q.handle q.out took acc all) (w : Well q) where
  -- a call that appends nothing
  quiet : (c : Call) (r : Outcome (Gives c))
      → EmitsNone c r.1 → Holds store r.0.handle r.0.out (took ++ frame_of c r.1) (acc ++ accepted_by store c r.1) all → Keeps store q c took acc all r
  quiet c r silent h = plain_keeps store q c took acc all r silent (grows_none h)

  stay : Holds store q.handle q.out (took ++ []) (acc ++ []) all
  stay = still k

  -- ── a take ──

  moved_on : (g : Group) (gs : List Group) → k.groups ≡ g ∷ gs → (x : Next store q g gs k.opened)
      → Holds store q.handle x.rest (took ++ x.frame ∷ []) acc all
  moved_on g gs e x =
      let frames : took ++ frames_all store q.handle (g ∷ gs) ≡ all = rw e at k.frames in
      record {
        groups = x.groups;
        opened = k.opened;
        stands = x.stands;
        count = rw x.batch k.count;
        kept = k.kept;
        seen = k.seen;
        frames = rw (append_assoc took (x.frame ∷ []) (frames_all store q.handle x.groups)) (rw x.moved at frames);
        reads = k.reads;
        same = rw x.batch k.same;
      }

  take_holds : (room : ℕ) (gs : List Group) → k.groups ≡ gs → Keeps store q (take room) took acc all (next_outbound_frame store room q)
  take_holds room [] e = rw (none_left store room q (rw e at k.stands.frames)) (quiet (take room) (refuse 10 q) tt stay)
  take_holds room (g ∷ gs) e =
      let x = next store q g gs k.opened (rw e at k.stands) in
      rw (x.takes room)
      (pick_ind (Keeps store q (take room) took acc all) (ltb room (length x.frame.payload)) _ _
      (λ y. quiet (take room) (refuse 9 q) tt stay)
      (λ y. quiet (take room) _ tt (rw (append-nil acc) (moved_on g gs e x))))

  -- ── the other calls ──

  settle_holds : {A : Type 0} (id : ℕ) (give : OpSend → A) (change : Queue → Queue) → ((p : Queue) → (change p).handle ≡ p.handle)
      → ((p : Queue) → (change p).out ≡ p.out) → (b : Bool) (op : Option OpSend) → let r = settle id give change q b op in
      Holds store r.0.handle r.0.out (took ++ []) (acc ++ []) all
  settle_holds id give change e f true (Some op) =
      rw (e (with_pending (settled id q.pending) q), f (with_pending (settled id q.pending) q)) stay
  settle_holds id give change e f true None = stay
  settle_holds id give change e f false op = stay

  -- a table that is refused is a call like any other
  refused_holds : {A : Type 0} (b : Bool) (n : ℕ) (p : Queue) (x : A) → let r : Outcome A = pick b (refuse n q) (p, done x) in
      Refused r.1 → Holds store r.0.handle r.0.out (took ++ []) (acc ++ []) all
  refused_holds true n p x h = stay
  refused_holds false n p x h = absurd h

  pub step_holds : (c : Call) → Ranged c → Covered store q c → Keeps store q c took acc all (step store c q)
  unfolding stay flush_batch apply_receipt apply_send_error drain_timed_out_sends set_initial_sequence_id settings.set settings.set_name settings.close drain_pending_sends snapshot_pending_sends replay_snapshots replay_pending_outbound flushed
  step_holds (send a) is64 covered = send_holds store q took acc all k w a is64 covered
  step_holds (flush time) is64 covered =
      let P : Outcome ℕ → Type 0 = Keeps store q (flush time) took acc all in
      pick_ind P (is_empty q.out.batch) _ _ (λ x. quiet (flush time) _ tt stay)
      (λ x. pick_ind P q.settings.switches.closed _ _ (λ y. quiet (flush time) _ tt stay)
      (λ y. pick_ind P (too_many 1 q) _ _ (λ z. quiet (flush time) _ tt stay)
      (λ z. plain_keeps store q (flush time) took acc all _ tt
      (rw (append-nil took, append-nil acc) (flush_if_holds store q took acc all k w true time (ltb-false outbound_size (q.out.waiting + 1) z))))))
  step_holds (take room) is64 covered = take_holds room k.groups refl
  step_holds (receipt id message_id) is64 covered =
      quiet (receipt id message_id) _ tt (settle_holds id (λ (op : OpSend). (op, of_receipt message_id)) (λ (p : Queue). with_ids (published id p.ids) p) (λ p. refl) (λ p. refl) (answerable id q.pending) (found id q.pending))
  step_holds (send_error id code) is64 covered =
      quiet (send_error id code) _ tt (settle_holds id (λ (op : OpSend). (op, code)) (λ (p : Queue). p) (λ p. refl) (λ p. refl) (answerable id q.pending) (found id q.pending))
  step_holds (timeouts now room) is64 covered =
      let gone = firsts (due_count now q.settings.delays.send_timeout q.pending) q.pending in
      pick_ind (Keeps store q (timeouts now room) took acc all) (ltb room (length gone)) _ _
      (λ x. quiet (timeouts now room) _ tt stay)
      (λ x. quiet (timeouts now room) _ tt stay)
  step_holds (initial_id n) is64 covered = quiet (initial_id n) _ tt stay
  step_holds (set x) is64 covered =
      pick_ind (Keeps store q (set x) took acc all) (settings.allowed x) _ _ (λ y. quiet (set x) _ tt stay) (λ y. quiet (set x) _ tt stay)
  step_holds (set_name bytes) is64 covered =
      pick_ind (Keeps store q (set_name bytes) took acc all) (leb (length bytes) longest_name) _ _
      (λ y. quiet (set_name bytes) _ tt stay)
      (λ y. quiet (set_name bytes) _ tt stay)
  step_holds close is64 covered = quiet close _ tt stay
  step_holds (query x) is64 covered = quiet (query x) _ tt stay
  step_holds (drain room) is64 covered = quiet (drain room) _ tt (refused_holds (ltb room (length q.pending)) 9 _ _ covered)
  step_holds (snapshot droppedRoom replayRoom) is64 covered =
      quiet (snapshot droppedRoom replayRoom) _ tt
      (refused_holds (ltb droppedRoom (length (batched_of q.pending)) || ltb replayRoom (length (framed_of q.pending))) 9 _ _ covered)
  step_holds (replay l) is64 covered =
      let P : Outcome (Unit {0}) → Type 0 = λ r. Refused r.1 → Keeps store q (replay l) took acc all r in
      pick_ind P (not (all_well_formed l)) _ _ (λ x h. quiet (replay l) _ tt stay)
      (λ x. pick_ind P (ltb pending_size (length l + length q.pending)) _ _ (λ y h. quiet (replay l) _ tt stay)
      (λ y. pick_ind P (too_many (frames_for l) q) _ _ (λ z h. quiet (replay l) _ tt stay) (λ z h. absurd h))) covered
  step_holds resend is64 covered =
      quiet resend _ tt (refused_holds (too_many (frames_for (unborne q.out.frames q.pending)) q) 4 _ _ covered)
