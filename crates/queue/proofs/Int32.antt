-- The numbers of frames that the protocol has as int32: 3 and 12 bound a payload, a chunk count stops at 2^31 - 1, 8 bounds a batch's count, and
-- what calls bring is an i32. Every call keeps that of the waiting records, of the pending entries and of the open batch.
use Rattle.std.specs.Prelude.{Option, Some, None}
use Prim.Native.Nat.{ℕ, ◌+◌, ◌^◌, ◌≤◌, ◌<◌}
use mathlib.Core.Path.{◌≡◌, refl, subst}
use mathlib.Core.Bool.{Bool, true, false, not, ◌&&◌, ◌||◌}
use mathlib.Core.List.{List, [], ◌∷◌, ◌++◌, map}
use native.Mathlib.Omega.{arith}
use lib.IntN.{ℤ, pos, negsuc}
use lib.ListN.{length, take as firsts}
use lib.Dec.{ltb, leb, eqb}
use borrow.Author.Tests.{leb-true, ltb-true, eqb-true, not-false}
use Rattle.laws.specs.Numbers.{add_sat}
use Rattle.laws.specs.Lists.{onto, front_all}
use Rattle.types.specs.Bounds.{longest_payload, longest_name}
use Rattle.types.specs.Ids.{of_receipt}
use Rattle.types.specs.declared.batch.BatchContainer.{BatchContainer}
use Rattle.types.specs.declared.entry.OpSend.{OpSend}
use Rattle.types.specs.declared.entry.Publish.{Publish}
use Rattle.types.specs.declared.entry.Replay.{Replay}
use Rattle.types.specs.declared.entry.Replay.TheVariants as replays
use Rattle.types.specs.declared.frame.FrameKind.{FrameKind}
use Rattle.types.specs.declared.frame.FrameKind.TheVariants.{Single, Batch, Chunked}
use Rattle.types.specs.declared.frame.FrameRecord.{FrameRecord}
use Rattle.types.specs.declared.message.OutgoingMessage.{OutgoingMessage}
use Rattle.types.specs.declared.message.SingleMessage.{SingleMessage}
use Rattle.types.specs.declared.settings.ProducerSettings.{ProducerSettings}
use Rattle.types.specs.declared.settings.Setting.{Setting}
use Rattle.types.specs.declared.settings.Setting.TheVariants as setting
use Rattle.types.specs.declared.types.ProducerHandle.{ProducerHandle}
use Rattle.types.specs.declared.way.Way.{Way}
use Rattle.types.specs.declared.way.Way.TheVariants as way
use Rattle.wire.specs.Batch.{All}
use Rattle.queue.specs.Queue.{Queue, Outcome, done, new_queue, with_pending, with_ids}
use Rattle.queue.specs.Settings as settings
use Rattle.queue.specs.Ids.{published, set_initial_sequence_id}
use Rattle.queue.specs.Batch.{at_least_one, can_add_to_batch, batchable, may_join, is_empty, too_many, flushed, flush_batch}
use Rattle.queue.specs.Send.{Sending, large, total_chunks, way_into, left_of, flushes_before, add_to_batch, emit_single, emit_chunked, flush_if, follow}
use Rattle.queue.specs.Frame.{Frame, first_frame, frame_in}
use Rattle.queue.specs.Sizes.{outbound_size, pending_size}
use Rattle.queue.specs.Take.{rest_of, take_from, next_outbound_frame}
use Rattle.queue.specs.Settle.{Handed, settled, settle, answerable, found, apply_receipt, apply_send_error, due_count, drain_timed_out_sends}
use Rattle.queue.specs.Tables.{drain_pending_sends, batched_of, framed_of, snapshot_pending_sends, has_chunk_count, all_well_formed, kind_again, again, frames_for, fronted, replay_snapshots, unborne, replay_pending_outbound}
use Rattle.queue.specs.Run.{Call, send, flush, take, receipt, send_error, timeouts, initial_id, set, set_name, close, query, drain, snapshot, replay, resend, step, after}
use Rattle.queue.specs.Reachable.{FitsInt32, IsI32, Counted, AllCounted, Int32Rule}
use Rattle.laws.proofs.Choice.{pick_ind, differ, and_left, and_right}
use Rattle.queue.proofs.ItemBounds.{payload_within}
use Rattle.queue.proofs.Entries.{ByPublish, EachFormed, settled_all, timed_all, marked_all, unborne_all, framed_all, all_well_formed_lem}
use Rattle.queue.proofs.Groups.{all_append, all_snoc}
use Rattle.queue.proofs.Reached.{send_cases}

-- ── what holds of a record, an entry and a queue ──

abbrev FitsAs : OutgoingMessage → FrameKind → Type 0
FitsAs m Single = IsI32 m.num_messages
FitsAs m (Batch b) = b.num_messages < 2 ^ 31
FitsAs m (Chunked c) = (c.total_chunks < 2 ^ 31) × (c.next_chunk < 2 ^ 31) × (m.payload.len < 2 ^ 31)

abbrev FitsRecord : FrameRecord → Type 0
FitsRecord r = FitsAs r.message r.kind

-- the record that a replay would push
abbrev FitsEntry : OpSend → Type 0
FitsEntry op = FitsAs op.publish.message (kind_again op.publish.replay)

by_publish : ByPublish FitsEntry
by_publish op p e h = subst (λ (x : Publish). FitsAs x.message (kind_again x.replay)) e h

record Fits (q : Queue) : Type 0 where
  frames : All FitsRecord q.out.frames
  pending : All FitsEntry q.pending
  batch : q.out.batch.len ≤ 128
  limit : q.settings.limits.max_messages_in_batch ≤ 128

-- ── a frame ──

some_fits : (n : ℤ) → IsI32 n → at_least_one n < 2 ^ 31
some_fits (pos n) h = omega arith
some_fits (negsuc n) h = omega arith

frame_fits : (lent : List ℕ) (handle : ProducerHandle) (r : FrameRecord) (x : FrameKind) (held : List SingleMessage) → FitsAs r.message x
    → FitsInt32 (first_frame lent handle r x held)
frame_fits lent handle r Single held h =
    record {
      num_messages = some_fits r.message.num_messages h;
      num_messages_in_batch = tt;
      chunk_id = tt;
      num_chunks = tt;
      total_chunk_msg_size = tt;
    }
frame_fits lent handle r (Batch b) held h =
    record { num_messages = h; num_messages_in_batch = h; chunk_id = tt; num_chunks = tt; total_chunk_msg_size = tt }
frame_fits lent handle r (Chunked c) held h =
    record { num_messages = omega arith; num_messages_in_batch = tt; chunk_id = h.1; num_chunks = h.0; total_chunk_msg_size = omega (arith, h.2) }

-- ── lists that grow ──

onto_all : {A : Type 0} (P : A → Type 0) (most : ℕ) (l : List A) (x : A) → All P l → P x → All P (onto most l x)
onto_all P most l x h k = pick_ind (All P) (ltb (length l) most) _ _ (λ e. all_snoc P l x h k) (λ e. h)

front_fits : (most : ℕ) (ops : List OpSend) (l : List FrameRecord) → All FitsEntry ops → All FitsRecord l
    → All FitsRecord (front_all most (map again ops) l)
front_fits most [] l h k = k
front_fits most (op ∷ ops) l h k =
    let rest = front_fits most ops l h.1 k in
    pick_ind (All FitsRecord) (ltb (length (front_all most (map again ops) l)) most) _ _ (λ e. (h.0, rest)) (λ e. rest)

-- ── a send ──

-- the count of chunks stops at 2^31 - 1
chunks_fit : (len size : ℕ) → total_chunks len size < 2 ^ 31
chunks_fit len size = pick_ind (λ n. n < 2 ^ 31) (eqb size 0) _ _ (λ e. omega arith) (λ e. omega arith)

-- of a way into a batch that is flushed before or not, and then has so many messages
abbrev FitsWay : (Bool → ℕ) → Way → Type 0
FitsWay len (way.TooLarge before) = Unit {0}
FitsWay len (way.Join before after) = add_sat (len before) 1 ≤ 128
FitsWay len (way.Single before) = Unit {0}
FitsWay len (way.Chunked before size count) = count < 2 ^ 31

one_at_least : (n : ℤ) → 1 ≤ at_least_one n
one_at_least (pos n) = omega arith
one_at_least (negsuc n) = omega arith

join_fits : (t : ProducerSettings) (b : BatchContainer) (m : OutgoingMessage) → t.limits.max_messages_in_batch ≤ 128 → may_join t b m ≡ true
    → add_sat b.len 1 ≤ 128
unfolding can_add_to_batch
join_fits t b m limit h =
    let may_batch = t.switches.batching_enabled && not t.switches.closed in
    let count = leb (add_sat b.len (at_least_one m.num_messages)) t.limits.max_messages_in_batch in
    let size = leb (add_sat b.current_size_bytes m.payload.len) t.limits.max_batch_size_bytes in
    let fits : count ≡ true =
    and_right may_batch count (and_left (may_batch && count) size (and_right (batchable m) (may_batch && count && size) h)) in
    omega (arith, one_at_least m.num_messages, leb-true (add_sat b.len (at_least_one m.num_messages)) t.limits.max_messages_in_batch fits)

way_fits : (t : ProducerSettings) (m : OutgoingMessage) (before : Bool) (b : BatchContainer) → t.limits.max_messages_in_batch ≤ 128
    → FitsWay (λ flush. (left_of t m flush b).len) (way_into t m before (left_of t m before b))
way_fits t m before b limit =
    let P : Way → Type 0 = FitsWay (λ flush. (left_of t m flush b).len) in
    pick_ind P (large t m && not t.switches.chunking_enabled) _ _ (λ x. tt)
    (λ x. pick_ind P (may_join t (left_of t m before b) m) _ _ (λ j. join_fits t (left_of t m before b) m limit j)
    (λ j. pick_ind P (large t m) _ _ (λ y. chunks_fit m.payload.len _) (λ y. tt)))

flush_fits : (flush : Bool) (time : ℕ) (q : Queue) → Fits q → Fits (flush_if flush time q)
unfolding flushed
flush_fits true time q k =
    record {
      frames = onto_all FitsRecord outbound_size q.out.frames _ k.frames (omega (arith, k.batch));
      pending = k.pending;
      batch = omega arith;
      limit = k.limit;
    }
flush_fits false time q k = k

left_is : (m : OutgoingMessage) (flush : Bool) (time : ℕ) (q : Queue)
    → (flush_if flush time q).out.batch.len ≡ (left_of q.settings m flush q.out.batch).len
unfolding flushed
left_is m true time q = refl
left_is m false time q = refl

follow_fits : (a : Sending) (w : Way) (q : Queue) → Fits q → IsI32 a.message.num_messages → a.message.payload.len ≤ longest_payload
    → FitsWay (λ flush. (left_of q.settings a.message flush q.out.batch).len) w → Fits (follow a w q)
unfolding follow add_to_batch emit_single emit_chunked
follow_fits a (way.TooLarge before) q k is32 short r = flush_fits before a.publish_time q k
follow_fits a (way.Join before after) q k is32 short r =
    let p = flush_if before a.publish_time q in
    let f = flush_fits before a.publish_time q k in
    flush_fits after a.publish_time (add_to_batch a p)
    (record {
      frames = f.frames;
      pending = onto_all FitsEntry pending_size p.pending _ f.pending is32;
      batch = rw (left_is a.message before a.publish_time q) r;
      limit = f.limit;
    })
follow_fits a (way.Single before) q k is32 short r =
    let p = flush_if before a.publish_time q in
    let f = flush_fits before a.publish_time q k in
    record {
      frames = onto_all FitsRecord outbound_size p.out.frames _ f.frames is32;
      pending = onto_all FitsEntry pending_size p.pending _ f.pending is32;
      batch = f.batch;
      limit = f.limit;
    }
follow_fits a (way.Chunked before size count) q k is32 short r =
    let p = flush_if before a.publish_time q in
    let f = flush_fits before a.publish_time q k in
    let fits : (count < 2 ^ 31) × (0 < 2 ^ 31) × (a.message.payload.len < 2 ^ 31) = (r, omega arith, omega arith) in
    record {
      frames = onto_all FitsRecord outbound_size p.out.frames _ f.frames fits;
      pending = onto_all FitsEntry pending_size p.pending _ f.pending fits;
      batch = f.batch;
      limit = f.limit;
    }

-- ── every call ──

limit_kept : (s : Setting) (t : ProducerSettings) → t.limits.max_messages_in_batch ≤ 128 → settings.allowed s ≡ true
    → (settings.changed s t).limits.max_messages_in_batch ≤ 128
limit_kept (setting.MaxMessageSize n) t h e = h
limit_kept (setting.MaxBatchSizeBytes n) t h e = h
limit_kept (setting.MaxMessagesInBatch n) t h e = leb-true n 128 e
limit_kept (setting.MetadataReservation n) t h e = h
limit_kept (setting.BatchingEnabled b) t h e = h
limit_kept (setting.ChunkingEnabled b) t h e = h
limit_kept (setting.SendTimeout d) t h e = h
limit_kept (setting.BatchingMaxPublishDelay d) t h e = h
limit_kept (setting.BrokerReady b) t h e = h

-- the rest of a chunked message starts at a chunk below its count
rest_fits : (r : FrameRecord) (x : FrameKind) (rs : List FrameRecord) → FitsAs r.message x → All FitsRecord rs → All FitsRecord (rest_of r x rs)
rest_fits r Single rs h k = k
rest_fits r (Batch b) rs h k = k
rest_fits r (Chunked c) rs h k =
    pick_ind (All FitsRecord) (ltb (c.next_chunk + 1) c.total_chunks) _ _
    (λ e. ((h.0, omega (arith, h.0, ltb-true (c.next_chunk + 1) c.total_chunks e), h.2), k))
    (λ e. k)

-- an entry that 12 takes
entry_fits : (m : OutgoingMessage) (r : Replay) → has_chunk_count m.payload.len r ≡ true → m.payload.len ≤ longest_payload → IsI32 m.num_messages
    → FitsAs m (kind_again r)
entry_fits m replays.Batched h short is32 = is32
entry_fits m replays.Single h short is32 = is32
entry_fits m (replays.Chunked count size) h short is32 =
    let e : count ≡ total_chunks m.payload.len size = eqb-true count (total_chunks m.payload.len size) h in
    (rw e (chunks_fit m.payload.len size), omega arith, omega (arith, short))

entries_fit : (l : List OpSend) → EachFormed l → All (λ op. IsI32 op.publish.message.num_messages) l → All FitsEntry l
entries_fit [] h k = tt
entries_fit (op ∷ l) h k =
    let p = op.publish in
    let short = payload_within p.message p.reservation.bytes (and_right _ _ h.0) in
    (entry_fits p.message p.replay (and_left _ _ h.0) short k.0, entries_fit l h.1 k.1)

module _ (store : List ℕ) (q : Queue) (k : Fits q) where
  take_fits : (room : ℕ) (rs : List FrameRecord) → All FitsRecord rs → Fits (take_from store room q rs).0
  take_fits room [] h = k
  take_fits room (r ∷ rs) h =
      let P : Outcome Frame → Type 0 = λ x. Fits x.0 in
      pick_ind P (frame_in (length store) r r.kind q.out.held) _ _
      (λ y. pick_ind P (ltb room (length (first_frame store q.handle r r.kind q.out.held).payload)) _ _ (λ z. k)
      (λ z. record { frames = rest_fits r r.kind rs h.0 h.1; pending = k.pending; batch = k.batch; limit = k.limit }))
      (λ y. k)

  -- only what is pending changes
  pending_fits : (l : List OpSend) → All FitsEntry l → Fits (with_pending l q)
  pending_fits l h = record { frames = k.frames; pending = h; batch = k.batch; limit = k.limit }

  settle_fits : {A : Type 0} (id : ℕ) (give : OpSend → A) (change : Queue → Queue) → ((p : Queue) → Fits p → Fits (change p))
      → (b : Bool) (op : Option OpSend) → Fits (settle id give change q b op).0
  settle_fits id give change f true (Some op) =
      f (with_pending (settled id q.pending) q) (pending_fits (settled id q.pending) (settled_all by_publish id q.pending k.pending))
  settle_fits id give change f true None = k
  settle_fits id give change f false op = k

  fronted_fits : (l : List OpSend) → All FitsEntry l → All FitsRecord (fronted l q.out).frames
  fronted_fits l h = front_fits outbound_size (framed_of l) q.out.frames (framed_all FitsEntry l h) k.frames

  replay_fits : (l : List OpSend) → Counted (replay l) → Fits (replay_snapshots l q).0
  unfolding replay_snapshots
  replay_fits l is32 =
      let P : Outcome (Unit {0}) → Type 0 = λ x. Fits x.0 in
      pick_ind P (not (all_well_formed l)) _ _ (λ x. k)
      (λ x. pick_ind P (ltb pending_size (length l + length q.pending)) _ _ (λ y. k)
      (λ y. pick_ind P (too_many (frames_for l) q) _ _ (λ z. k)
      (λ z.
      let h = entries_fit l (all_well_formed_lem l (not-false _ x)) is32 in
      record {
        frames = fronted_fits l h;
        pending = marked_all by_publish (l ++ q.pending) (all_append FitsEntry l q.pending h k.pending);
        batch = k.batch;
        limit = k.limit;
      })))

  step_fits : (c : Call) → Counted c → Fits (step store c q).0
  unfolding flush_batch next_outbound_frame apply_receipt apply_send_error drain_timed_out_sends set_initial_sequence_id settings.set settings.set_name settings.close drain_pending_sends snapshot_pending_sends replay_pending_outbound
  step_fits (send a) is32 =
      send_cases (length store) a q (λ r. Fits r.0) (λ n. k)
      (λ i b passed. follow_fits a _ q k is32 (payload_within a.message a.reserved b)
      (way_fits q.settings a.message (flushes_before q.settings a.message q.out.batch) q.out.batch k.limit))
  step_fits (flush time) is32 =
      let P : Outcome ℕ → Type 0 = λ x. Fits x.0 in
      pick_ind P (is_empty q.out.batch) _ _ (λ x. k)
      (λ x. pick_ind P q.settings.switches.closed _ _ (λ y. k)
      (λ y. pick_ind P (too_many 1 q) _ _ (λ z. k) (λ z. flush_fits true time q k)))
  step_fits (take room) is32 = take_fits room q.out.frames k.frames
  step_fits (receipt id message_id) is32 =
      settle_fits id (λ (op : OpSend). (op, of_receipt message_id)) (λ (p : Queue). with_ids (published id p.ids) p)
      (λ p h. record { frames = h.frames; pending = h.pending; batch = h.batch; limit = h.limit }) (answerable id q.pending) (found id q.pending)
  step_fits (send_error id code) is32 =
      settle_fits id (λ (op : OpSend). (op, code)) (λ (p : Queue). p) (λ p h. h) (answerable id q.pending) (found id q.pending)
  step_fits (timeouts now room) is32 =
      let n = due_count now q.settings.delays.send_timeout q.pending in
      let gone = firsts n q.pending in
      pick_ind (λ (x : Outcome Handed). Fits x.0) (ltb room (length gone)) _ _ (λ x. k)
      (λ x. pending_fits _ (timed_all by_publish gone n q.pending k.pending))
  step_fits (initial_id n) is32 = record { frames = k.frames; pending = k.pending; batch = k.batch; limit = k.limit }
  step_fits (set s) is32 =
      pick_ind (λ (x : Outcome (Unit {0})). Fits x.0) (settings.allowed s) _ _
      (λ e. record { frames = k.frames; pending = k.pending; batch = k.batch; limit = limit_kept s q.settings k.limit e })
      (λ x. k)
  step_fits (set_name bytes) is32 =
      pick_ind (λ (x : Outcome (Unit {0})). Fits x.0) (leb (length bytes) longest_name) _ _
      (λ x. record { frames = k.frames; pending = k.pending; batch = k.batch; limit = k.limit })
      (λ x. k)
  step_fits close is32 = record { frames = k.frames; pending = k.pending; batch = k.batch; limit = k.limit }
  step_fits (query x) is32 = k
  step_fits (drain room) is32 =
      pick_ind (λ (x : Outcome Handed). Fits x.0) (ltb room (length q.pending)) _ _ (λ x. k)
      (λ x. record { frames = tt; pending = tt; batch = omega arith; limit = k.limit })
  step_fits (snapshot droppedRoom replayRoom) is32 =
      pick_ind (λ (x : Outcome (Handed × Handed)). Fits x.0)
      (ltb droppedRoom (length (batched_of q.pending)) || ltb replayRoom (length (framed_of q.pending))) _ _ (λ x. k)
      (λ x. record { frames = tt; pending = tt; batch = omega arith; limit = k.limit })
  step_fits (replay l) is32 = replay_fits l is32
  step_fits resend is32 =
      let l = unborne q.out.frames q.pending in
      pick_ind (λ (x : Outcome ℕ). Fits x.0) (too_many (frames_for l) q) _ _ (λ z. k)
      (λ z. record {
        frames = fronted_fits l (unborne_all FitsEntry q.out.frames q.pending k.pending);
        pending = k.pending;
        batch = k.batch;
        limit = k.limit;
      })

-- ── every list of calls, and then a take ──

run_fits : (store : List ℕ) (cs : List Call) (q : Queue) → Fits q → AllCounted cs → Fits (after store q cs)
unfolding after
run_fits store [] q k is32 = k
run_fits store (c ∷ cs) q k is32 = run_fits store cs (step store c q).0 (step_fits store q k c is32.0) is32.1

new_fits : (handle : ProducerHandle) → Fits (new_queue handle)
new_fits handle = record { frames = tt; pending = tt; batch = omega arith; limit = omega arith }

taken_fits : (lent : List ℕ) (room : ℕ) (q : Queue) (rs : List FrameRecord) → All FitsRecord rs → (f : Frame)
    → (take_from lent room q rs).1 ≡ done f → FitsInt32 f
taken_fits lent room q [] h f = λ e. differ (cc)
taken_fits lent room q (r ∷ rs) h f =
    let first = first_frame lent q.handle r r.kind q.out.held in
    let P : Outcome Frame → Type 0 = λ x. x.1 ≡ done f → FitsInt32 f in
    pick_ind P (frame_in (length lent) r r.kind q.out.held) _ _
    (λ y. pick_ind P (ltb room (length first.payload)) _ _ (λ z e. differ (cc))
    (λ z e. let same : first ≡ f = cc in rw same at (frame_fits lent q.handle r r.kind q.out.held h.0)))
    (λ y e. differ (cc))

pub int32_rule : Int32Rule
unfolding next_outbound_frame
int32_rule store handle cs is32 lent room f e =
    let q = after store (new_queue handle) cs in
    taken_fits lent room q q.out.frames (run_fits store cs (new_queue handle) (new_fits handle) is32).frames f e
