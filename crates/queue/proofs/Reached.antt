-- Every call keeps a queue well, replays included: the refusals 4, 5 and 7 leave room for what the call then pushes.
use Rattle.std.specs.Prelude.{Option, Some, None}
use Prim.Native.Nat.{ℕ, ◌+◌, ◌≤◌, ◌<◌}
use mathlib.Core.Path.{◌≡◌, refl, sym, ◌∙◌}
use mathlib.Core.Bool.{Bool, true, false, not, ◌&&◌, ◌||◌}
use mathlib.Core.List.{List, [], ◌∷◌, ◌++◌, map}
use native.Mathlib.Omega.{arith}
use lib.ListN.{length, take as firsts, drop as lasts, length-append, length-map}
use lib.Dec.{ltb, leb, eqb}
use borrow.Author.Tests.{ltb-false, leb-false, not-false}
use Rattle.laws.specs.Numbers.{add_sat}
use Rattle.types.specs.Bounds.{longest_name}
use Rattle.types.specs.declared.batch.BatchContainer.{BatchContainer}
use Rattle.types.specs.declared.entry.OpSend.{OpSend}
use Rattle.types.specs.declared.frame.FrameRecord.{FrameRecord}
use Rattle.types.specs.declared.message.OutgoingMessage.{OutgoingMessage}
use Rattle.types.specs.declared.settings.ProducerSettings.{ProducerSettings}
use Rattle.types.specs.declared.types.ProducerHandle.{ProducerHandle}
use Rattle.types.specs.declared.way.Way.{Way}
use Rattle.types.specs.declared.way.Way.TheVariants as way
use Rattle.queue.specs.Queue.{Queue, Outcome, new_queue, empty_outgoing, refuse, with_out, with_pending, with_ids}
use Rattle.types.specs.Ids.{of_receipt}
use Rattle.queue.specs.Settings as settings
use Rattle.queue.specs.Ids.{published, set_initial_sequence_id}
use Rattle.queue.specs.Batch.{too_many, flush_batch, is_empty, may_join}
use Rattle.queue.specs.Send.{Sending, Decision, large, total_chunks, way_into, way_of, flushes_before, pushes, joins, is_too_large, message_in, within_bounds, Plan, no, go, plan, add_to_batch, flush_if, follow, carried_out, queue_send}
use Rattle.queue.specs.Frame.{Frame, first_frame, frame_in}
use Rattle.queue.specs.Sizes.{outbound_size, held_size, pending_size}
use Rattle.queue.specs.Take.{take_from, next_outbound_frame}
use Rattle.queue.specs.Settle.{Handed, settled, settle, answerable, found, apply_receipt, apply_send_error, due_count, unmark_all, hand_out, drain_timed_out_sends}
use Rattle.queue.specs.Tables.{drain_pending_sends, batched_of, framed_of, snapshot_pending_sends, all_well_formed, frames_for, again, fronted, replay_snapshots, unborne, replay_pending_outbound}
use Rattle.queue.specs.Run.{Call, send, flush, take, receipt, send_error, timeouts, initial_id, set, set_name, close, query, drain, snapshot, replay, resend, Ranged, AllRanged, step, after}
use Rattle.laws.proofs.Choice.{pick_ind, false_true}
use Rattle.laws.proofs.Pushes.{front_room}
use Rattle.queue.proofs.ItemBounds.{Sendable, sendable}
use Rattle.queue.proofs.Sound.{Sound, empty_sound, left_append, held_append, waits_append, waits_length, records_fit, take_sound}
use Rattle.queue.proofs.Moves.{Well, flush_well, join_well, single_well, chunked_well, flush_if_lem, join_waiting}
use Rattle.queue.proofs.Entries.{EachFormed, same_formed, formed_append, settled_entries, timed_entries, marked_all, all_well_formed_lem, unborne_all, again_all}

-- ── a send ──

-- a way of chunks has as many as the message takes
abbrev pub ChunkCount : OutgoingMessage → Way → Type 0
ChunkCount m (way.TooLarge before) = Unit {0}
ChunkCount m (way.Join before after) = Unit {0}
ChunkCount m (way.Single before) = Unit {0}
ChunkCount m (way.Chunked before size count) = count ≡ total_chunks m.payload.len size

pub way_chunks : (t : ProducerSettings) (m : OutgoingMessage) (before : Bool) (b : BatchContainer) → ChunkCount m (way_into t m before b)
way_chunks t m before b =
    pick_ind (ChunkCount m) (large t m && not t.switches.chunking_enabled) _ _ (λ x. tt)
    (λ x. pick_ind (ChunkCount m) (may_join t b m) _ _ (λ y. tt) (λ y. pick_ind (ChunkCount m) (large t m) _ _ (λ z. refl) (λ z. tt)))

-- what refusals 4, 5 and 7 leave of room
pub record Passed (w : Way) (q : Queue) : Type 0 where
  pub frames : q.out.waiting + pushes w ≤ outbound_size
  pub held : (joins w && leb held_size (length q.out.held)) ≡ false
  pub pending : is_too_large w ≡ false → length q.pending < pending_size

pub follow_well : (a : Sending) (w : Way) (q : Queue) → Well q → Sendable a → ChunkCount a.message w → Passed w q → Well (follow a w q)
unfolding follow
follow_well a (way.TooLarge before) q k s c r = (flush_if_lem q k before a.publish_time r.frames).well
follow_well a (way.Join before after) q k s c r =
    let f = flush_if_lem q k before a.publish_time (omega (arith, r.frames)) in
    let p = flush_if before a.publish_time q in
    let held : length p.out.held < held_size = rw f.held (leb-false held_size (length q.out.held) r.held) in
    let j = join_well p f.well a held (rw f.pending (r.pending refl)) s in
    (flush_if_lem (add_to_batch a p) j after a.publish_time (rw (join_waiting a p) (omega (arith, f.waiting, r.frames)))).well
follow_well a (way.Single before) q k s c r =
    let f = flush_if_lem q k before a.publish_time (omega (arith, r.frames)) in
    single_well (flush_if before a.publish_time q) f.well a (omega (arith, f.waiting, r.frames)) (rw f.pending (r.pending refl)) s
follow_well a (way.Chunked before size count) q k s c r =
    let f = flush_if_lem q k before a.publish_time (omega (arith, r.frames)) in
    chunked_well (flush_if before a.publish_time q) f.well a size count c (omega (arith, f.waiting, r.frames)) (rw f.pending (r.pending refl)) s

-- a send is refused, and then the queue is as it was, or it goes its way, past the refusals
module _ (n : ℕ) (a : Sending) (q : Queue) where
  abbrev pub way_of_lem : Way
  way_of_lem = way_of q.settings a.message q.out.batch

  abbrev pub Goes : Type 0 → Type 0
  Goes P = message_in n a.message a.message.payload ≡ true → within_bounds a.message a.reserved ≡ true → Passed way_of_lem q → P

  -- 6 is no such refusal: it goes its way
  pub plan_cases : (P : Plan → Type 0) → ((number : ℕ) → eqb number 6 ≡ false → P (no number)) → Goes (P (go way_of_lem)) → P (plan n a q)
  unfolding plan
  plan_cases P stay goes =
      pick_ind P q.settings.switches.closed _ _ (λ x. stay 1 refl)
      (λ x. pick_ind P (not (message_in n a.message a.message.payload)) _ _ (λ y. stay 2 refl)
      (λ i. pick_ind P (not (within_bounds a.message a.reserved)) _ _ (λ y. stay 3 refl)
      (λ b. pick_ind P (too_many (pushes way_of_lem) q) _ _ (λ y. stay 4 refl)
      (λ f. pick_ind P (joins way_of_lem && leb held_size (length q.out.held)) _ _ (λ y. stay 5 refl)
      (λ h.
      let frames : q.out.waiting + pushes way_of_lem ≤ outbound_size = ltb-false outbound_size (q.out.waiting + pushes way_of_lem) f in
      pick_ind P (is_too_large way_of_lem) _ _
      (λ l. goes (not-false _ i) (not-false _ b) (record { frames = frames; held = h; pending = λ e. false_true (sym e ∙ l) }))
      (λ l. pick_ind P (leb pending_size (length q.pending)) _ _ (λ y. stay 7 refl)
      (λ y. goes (not-false _ i) (not-false _ b) (record { frames = frames; held = h; pending = λ e. leb-false pending_size (length q.pending) y }))))))))

  pub send_cases : (P : Outcome Decision → Type 0) → ((number : ℕ) → P (refuse number q)) → Goes (P (carried_out a q (go way_of_lem))) → P (queue_send n a q)
  unfolding queue_send
  send_cases P stay goes = plan_cases (λ p. P (carried_out a q p)) (λ number e. stay number) goes

module _ (store : List ℕ) (q : Queue) (k : Well q) where
  send_well : (a : Sending) → Ranged (send a) → Well (queue_send (length store) a q).0
  send_well a is64 =
      send_cases (length store) a q (λ r. Well r.0) (λ n. k)
      (λ i b room. follow_well a _ q k (sendable a b is64)
      (way_chunks q.settings a.message (flushes_before q.settings a.message q.out.batch) _) room)

  -- ── a take ──

  take_well : (room : ℕ) (rs : List FrameRecord) → q.out.frames ≡ rs → Well (take_from store room q rs).0
  take_well room [] e = k
  take_well room (r ∷ rs) e =
      let P : Outcome Frame → Type 0 = λ x. Well x.0 in
      pick_ind P (frame_in (length store) r r.kind q.out.held) _ _
      (λ y. pick_ind P (ltb room (length (first_frame store q.handle r r.kind q.out.held).payload)) _ _ (λ z. k)
      (λ z. record { out = take_sound q.out r rs k.out e; pending = k.pending }))
      (λ y. k)

  -- ── what is settled, and what is handed out ──

  settle_well : {A : Type 0} (id : ℕ) (give : OpSend → A) (change : Queue → Queue) → ((p : Queue) → Well p → Well (change p))
      → (b : Bool) (op : Option OpSend) → Well (settle id give change q b op).0
  settle_well id give change f true (Some op) =
      f (with_pending (settled id q.pending) q) (record { out = k.out; pending = settled_entries id q.pending k.pending })
  settle_well id give change f true None = k
  settle_well id give change f false op = k

  hand_out_well : (room : ℕ) (gone : List OpSend) (p : Queue) → Well p → Well (hand_out room gone q p).0
  hand_out_well room gone p h = pick_ind (λ (x : Outcome Handed). Well x.0) (ltb room (length gone)) _ _ (λ e. k) (λ e. h)

  -- ── replays ──

  fronted_sound : (l : List OpSend) → EachFormed l → q.out.waiting + frames_for l ≤ outbound_size → Sound (fronted l q.out)
  fronted_sound l formed room =
      let o = q.out in
      let rs = map again (framed_of l) in
      let x = again_all l formed in
      let fits : length rs + length o.frames ≤ outbound_size = omega (arith, waits_length rs x.each, x.counted, records_fit o k.out) in
      let sum : add_sat (frames_for l) o.waiting ≡ frames_for l + o.waiting = omega arith in
      rw (front_room outbound_size rs o.frames fits, sum)
      (record {
        counted = rw left_append (omega (arith, x.counted, k.out.counted));
        each = waits_append rs o.frames x.each k.out.each;
        waiting = omega arith;
        shared = rw held_append (omega (arith, x.held, k.out.shared));
        held = k.out.held;
        size = k.out.size;
        encoded = k.out.encoded;
        size_low = k.out.size_low;
        encoded_low = k.out.encoded_low;
      })

  replay_well : (l : List OpSend) → Well (replay_snapshots l q).0
  unfolding replay_snapshots
  replay_well l =
      let P : Outcome (Unit {0}) → Type 0 = λ x. Well x.0 in
      pick_ind P (not (all_well_formed l)) _ _ (λ x. k)
      (λ x. pick_ind P (ltb pending_size (length l + length q.pending)) _ _ (λ y. k)
      (λ y. pick_ind P (too_many (frames_for l) q) _ _ (λ z. k)
      (λ z.
      let formed : EachFormed l = all_well_formed_lem l (not-false _ x) in
      record {
        out = fronted_sound l formed (ltb-false outbound_size (q.out.waiting + frames_for l) z);
        pending = record {
          few = rw (length-map, length-append) (ltb-false pending_size (length l + length q.pending) y);
          formed = marked_all same_formed (l ++ q.pending) (formed_append l q.pending formed k.pending.formed);
        };
      })))

  resend_well : Well (replay_pending_outbound q).0
  unfolding replay_pending_outbound
  resend_well =
      let l = unborne q.out.frames q.pending in
      pick_ind (λ (x : Outcome ℕ). Well x.0) (too_many (frames_for l) q) _ _ (λ z. k)
      (λ z. record {
        out = fronted_sound l (unborne_all _ q.out.frames q.pending k.pending.formed) (ltb-false outbound_size (q.out.waiting + frames_for l) z);
        pending = k.pending;
      })

  -- ── every call ──

  empty_well : (p : Queue) → p.out ≡ empty_outgoing → p.pending ≡ [] → Well p
  empty_well p e f = record { out = rw e empty_sound; pending = rw f (record { few = omega arith; formed = tt }) }

  pub step_well : (c : Call) → Ranged c → Well (step store c q).0
  unfolding flush_batch next_outbound_frame apply_receipt apply_send_error drain_timed_out_sends set_initial_sequence_id settings.set settings.set_name settings.close drain_pending_sends snapshot_pending_sends
  step_well (send a) is64 = send_well a is64
  step_well (flush time) is64 =
      let P : Outcome ℕ → Type 0 = λ x. Well x.0 in
      pick_ind P (is_empty q.out.batch) _ _ (λ x. k)
      (λ x. pick_ind P q.settings.switches.closed _ _ (λ y. k)
      (λ y. pick_ind P (too_many 1 q) _ _ (λ z. k) (λ z. flush_well q k time (ltb-false outbound_size (q.out.waiting + 1) z))))
  step_well (take room) is64 = take_well room q.out.frames refl
  step_well (receipt id message_id) is64 =
      settle_well id (λ (op : OpSend). (op, of_receipt message_id)) (λ (p : Queue). with_ids (published id p.ids) p) (λ p h. record { out = h.out; pending = h.pending }) (answerable id q.pending) (found id q.pending)
  step_well (send_error id code) is64 = settle_well id (λ (op : OpSend). (op, code)) (λ (p : Queue). p) (λ p h. h) (answerable id q.pending) (found id q.pending)
  step_well (timeouts now room) is64 =
      let n = due_count now q.settings.delays.send_timeout q.pending in
      let gone = firsts n q.pending in
      hand_out_well room gone (with_pending (unmark_all gone (lasts n q.pending)) q)
      (record { out = k.out; pending = timed_entries gone n q.pending k.pending })
  step_well (initial_id next) is64 = record { out = k.out; pending = k.pending }
  step_well (set s) is64 =
      pick_ind (λ (x : Outcome (Unit {0})). Well x.0) (settings.allowed s) _ _ (λ x. record { out = k.out; pending = k.pending }) (λ x. k)
  step_well (set_name bytes) is64 =
      pick_ind (λ (x : Outcome (Unit {0})). Well x.0) (leb (length bytes) longest_name) _ _ (λ x. record { out = k.out; pending = k.pending }) (λ x. k)
  step_well close is64 = record { out = k.out; pending = k.pending }
  step_well (query x) is64 = k
  step_well (drain room) is64 =
      hand_out_well room q.pending (with_out empty_outgoing (with_pending [] q)) (empty_well (with_out empty_outgoing (with_pending [] q)) refl refl)
  step_well (snapshot droppedRoom replayRoom) is64 =
      pick_ind (λ (x : Outcome (Handed × Handed)). Well x.0)
      (ltb droppedRoom (length (batched_of q.pending)) || ltb replayRoom (length (framed_of q.pending))) _ _
      (λ x. k)
      (λ x. empty_well _ refl refl)
  step_well (replay entries) is64 = replay_well entries
  step_well resend is64 = resend_well

-- ── every list of calls ──

pub new_well : (handle : ProducerHandle) → Well (new_queue handle)
new_well handle = record { out = empty_sound; pending = record { few = omega arith; formed = tt } }

pub run_well : (store : List ℕ) (cs : List Call) (q : Queue) → Well q → AllRanged cs → Well (after store q cs)
unfolding after
run_well store [] q k is64 = k
run_well store (c ∷ cs) q k is64 = run_well store cs (step store c q).0 (step_well store q k c is64.0) is64.1
