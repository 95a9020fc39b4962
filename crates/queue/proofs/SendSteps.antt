-- A send keeps what holds, whichever way its message goes: no batch is open before a frame of its own, and a batch that it joins is of its
-- transaction.
use Rattle.std.specs.Prelude.{None, Option, Some}
use Prim.Native.Nat.{ℕ, ◌+◌, ◌≤◌, ◌<◌}
use mathlib.Core.Path.{◌≡◌, refl, sym}
use mathlib.Core.Bool.{Bool, true, false, not, ◌&&◌}
use mathlib.Core.List.{List, [], ◌∷◌, ◌++◌, append_assoc, append-nil}
use native.Mathlib.Omega.{arith}
use lib.ListN.{length}
use lib.Dec.{eqb, leb}
use borrow.Author.Tests.{eqb-true, leb-false}
use Rattle.laws.specs.Numbers.{add_sat}
use Rattle.types.specs.Values.{part_in, maybe_in}
use Rattle.types.specs.declared.message.OutgoingMessage.{OutgoingMessage}
use Rattle.types.specs.declared.settings.ProducerSettings.{ProducerSettings}
use Rattle.types.specs.declared.types.ProducerHandle.{ProducerHandle}
use Rattle.types.specs.declared.way.Way.{Way}
use Rattle.wire.specs.Batch.{All, WithinBounds}
use Rattle.queue.specs.Queue.{Queue, Outgoing, Outcome, done}
use Rattle.queue.specs.Batch.{batchable, can_add_to_batch, may_join, is_empty, is_full, same_txn, single_of, at_least_one, flushed}
use Rattle.queue.specs.Send.{Sending, emitted, large, chunk_size_of, total_chunks, other_txn, in_the_way, flushes_before, left_of, way_into, message_in, one, go, add_to_batch, emit_single, emit_chunked, flush_if, follow, carried_out, queue_send}
use Rattle.queue.specs.Frame.{Frame, single_frame, single_in}
use Rattle.queue.specs.Message.{Message, message_of}
use Rattle.queue.specs.Run.{Call, send, Ranged, Gives, frame_of, accepted_by}
use Rattle.queue.specs.Order.{Covered}
use Rattle.queue.specs.Chunks.{OfBatch, EmitsNone, Cuts, none_cut, not_cut, one_cut}
use Rattle.queue.specs.Sizes.{outbound_size, held_size}
use Rattle.laws.proofs.Choice.{pick_ind, false_true, and_left, and_right, or_left, or_right}
use Rattle.queue.proofs.ItemBounds.{Sendable, sendable}
use Rattle.queue.proofs.Moves.{Well, flush_out, join_out, single_out_lem, chunked_out, single_record, chunked_record, join_well, AfterFlush, flush_if_lem, join_waiting}
use Rattle.queue.proofs.Reached.{Passed, send_cases}
use Rattle.queue.proofs.Entries.{some_chunk}
use Rattle.queue.proofs.Reading.{chunk_run, run_length, from_first, Cut}
use Rattle.queue.proofs.Groups.{Kept, all_append}
use Rattle.queue.proofs.Chunking.{size_some, cut_holds, chunks_cut}
use Rattle.queue.proofs.Sends.{Holds, Grows, flush_holds, single_holds, chunks_hold, join_holds}
use Rattle.types.specs.declared.txn.TxnId.{TxnId}

-- what a call has to keep, and what it appends
pub record Keeps (store : List ℕ) (q : Queue) (c : Call) (took : List Frame) (acc : List Message) (all : List Frame) (r : Outcome (Gives c)) : Type 0 where
  pub flushes : List Frame
  pub own : List Frame
  pub of_batch : All OfBatch flushes
  pub cut : Cuts store q.settings c r.1 own
  pub holds : Holds store r.0.handle r.0.out (took ++ frame_of c r.1) (acc ++ accepted_by store c r.1) (all ++ flushes ++ own)

-- a call that emits no message of its own
pub plain_keeps : (store : List ℕ) (q : Queue) (c : Call) (took : List Frame) (acc : List Message) (all : List Frame) (r : Outcome (Gives c))
    → EmitsNone c r.1
    → Grows OfBatch store r.0.handle r.0.out (took ++ frame_of c r.1) (acc ++ accepted_by store c r.1) all
    → Keeps store q c took acc all r
plain_keeps store q c took acc all r silent g =
    record { flushes = g.more; own = []; of_batch = g.each; cut = none_cut silent; holds = rw (append-nil (all ++ g.more)) g.holds }

-- the answer is the number of the frames
emits_many : {store : List ℕ} {t : ProducerSettings} (a : Sending) (fs : List Frame) (n : ℕ) → n ≡ length fs
    → Cuts store t (send a) (done (emitted (length fs))) fs → Cuts store t (send a) (done (emitted n)) fs
emits_many a fs n e k = rw e k

-- nothing taken, nothing accepted
pub still : {store : List ℕ} {handle : ProducerHandle} {o : Outgoing} {took : List Frame} {acc : List Message} {all : List Frame}
    → Holds store handle o took acc all → Holds store handle o (took ++ []) (acc ++ []) all
still {took} {acc} k = rw (append-nil took, append-nil acc) k

-- no frame more, or these and then more
pub grows_none : {store : List ℕ} {handle : ProducerHandle} {o : Outgoing} {took : List Frame} {acc : List Message} {all : List Frame}
    → Holds store handle o took acc all → Grows OfBatch store handle o took acc all
grows_none {all} k = record { more = []; each = tt; holds = rw (append-nil all) k }

grows_more : {store : List ℕ} {handle : ProducerHandle} {o : Outgoing} {took : List Frame} {acc : List Message} {all : List Frame}
    → (first : List Frame) → All OfBatch first → Grows OfBatch store handle o took acc (all ++ first) → Grows OfBatch store handle o took acc all
grows_more {all} first each g =
    record { more = first ++ g.more; each = all_append OfBatch first g.more each g.each; holds = rw (← append_assoc all first g.more) g.holds }

-- ── tests of a send ──

same_txn_lem : (a b : Option TxnId) → same_txn a b ≡ true → a ≡ b
same_txn_lem None None h = refl
same_txn_lem None (Some u) h = false_true h
same_txn_lem (Some t) None h = false_true h
same_txn_lem (Some t) (Some u) h =
    let x = eqb t.most_sig_bits u.most_sig_bits in
    let y = eqb t.least_sig_bits u.least_sig_bits in
    let p : t.most_sig_bits ≡ u.most_sig_bits = eqb-true t.most_sig_bits u.most_sig_bits (and_left x y h) in
    let q : t.least_sig_bits ≡ u.least_sig_bits = eqb-true t.least_sig_bits u.least_sig_bits (and_right x y h) in
    λ i. Some (record { most_sig_bits = p i; least_sig_bits = q i })

-- no batch is in the way of a message that cannot join: none waits
alone : (e j : Bool) → (not e && not j) ≡ false → j ≡ false → e ≡ true
alone true j h f = refl
alone false true h f = sym f
alone false false h f = sym h

-- no batch of another transaction waits, batching is on, and a batch waits: it is of this one
one_kind : (e b s : Bool) → (not e && b && not s) ≡ false → e ≡ false → b ≡ true → s ≡ true
one_kind true b s h e f = false_true (sym e)
one_kind false true true h e f = refl
one_kind false true false h e f = sym h
one_kind false false s h e f = false_true f

-- a message above the limit that is not refused: chunking is on
chunking_on : (large on : Bool) → (large && not on) ≡ false → large ≡ true → on ≡ true
chunking_on true true h e = refl
chunking_on true false h e = sym h
chunking_on false on h e = false_true e

kept_of : (store : List ℕ) (m : OutgoingMessage) → message_in (length store) m m.payload ≡ true → WithinBounds (single_of m) → Kept store (single_of m)
kept_of store m i s =
    let n = length store in
    let a = single_in n (single_of m) in
    let v = maybe_in n m.schema_version in
    record { inside = and_left a v (and_left (a && v) (part_in n m.producer_name) i); bounds = s }

module _ (q : Queue) where
  -- before a frame of its own no batch is open
  emptied : (before : Bool) (m : OutgoingMessage) (time : ℕ) → flushes_before q.settings m q.out.batch ≡ before
      → may_join q.settings (left_of q.settings m before q.out.batch) m ≡ false → (flush_if before time q).out.batch.len ≡ 0
  unfolding flushes_before flushed
  emptied true m time e j = refl
  emptied false m time e j =
      let b = q.out.batch in
      let t = q.settings in
      eqb-true b.len 0 (alone (is_empty b) (may_join t b m) (or_right (other_txn t m b) (in_the_way t m b) e) j)

  -- before a join the open batch is of the message's transaction
  agreed : (before : Bool) (m : OutgoingMessage) (time : ℕ) → flushes_before q.settings m q.out.batch ≡ before
      → may_join q.settings (left_of q.settings m before q.out.batch) m ≡ true
      → is_empty (flush_if before time q).out.batch ≡ false → (flush_if before time q).out.batch.txn_id ≡ m.txn_id
  unfolding flushes_before flushed can_add_to_batch
  agreed true m time e j open-batch = false_true (sym open-batch)
  agreed false m time e j open-batch =
      let b = q.out.batch in
      let t = q.settings in
      let on = t.switches.batching_enabled in
      let not-closed = not t.switches.closed in
      let count = leb (add_sat b.len (at_least_one m.num_messages)) t.limits.max_messages_in_batch in
      let size = leb (add_sat b.current_size_bytes m.payload.len) t.limits.max_batch_size_bytes in
      let can : (on && not-closed && count && size) ≡ true = and_right (batchable m) (on && not-closed && count && size) j in
      let batching : on ≡ true = and_left on not-closed (and_left (on && not-closed) count (and_left (on && not-closed && count) size can)) in
      same_txn_lem b.txn_id m.txn_id
      (one_kind (is_empty b) on (same_txn b.txn_id m.txn_id) (or_left (other_txn t m b) (in_the_way t m b) e) open-batch batching)

-- ── a send ──

module _ (store : List ℕ) (q : Queue) (took : List Frame) (acc : List Message) (all : List Frame)
    (k : Holds store q.handle q.out took acc all) (w : Well q) where
  pub flush_if_holds : (flush : Bool) (time : ℕ) → q.out.waiting + one flush ≤ outbound_size
      → Grows OfBatch store (flush_if flush time q).handle (flush_if flush time q).out took acc all
  unfolding flushed
  flush_if_holds true time room =
      rw (flush_out q w time room) (flush_holds store q.handle q.out took acc all k q.settings time)
  flush_if_holds false time room = grows_none k

  join_keeps : (a : Sending) → length q.out.held < held_size → Kept store (single_of a.message)
      → (is_empty q.out.batch ≡ false → q.out.batch.txn_id ≡ a.message.txn_id)
      → Holds store (add_to_batch a q).handle (add_to_batch a q).out took (acc ++ message_of store a.message ∷ []) all
  unfolding add_to_batch
  join_keeps a room kept agrees =
      rw (join_out q w a room)
      (join_holds store q.handle q.out took acc all k a.message q.ids.next_sequence_id.0 a.now (omega (arith, w.out.shared)) kept agrees)

  single_keeps : (a : Sending) → q.out.waiting + 1 ≤ outbound_size → q.out.batch.len ≡ 0
      → message_in (length store) a.message a.message.payload ≡ true
      → Holds store (emit_single a q).handle (emit_single a q).out took (acc ++ message_of store a.message ∷ [])
      (all ++ single_frame store q.handle (single_record q a) ∷ [])
  unfolding emit_single
  single_keeps a room e i =
      rw (single_out_lem q w a room) (single_holds store q.handle q.out took acc all k (single_record q a) e i)

  chunked_keeps : (a : Sending) (size count : ℕ) → 1 ≤ count → q.out.waiting + count ≤ outbound_size → q.out.batch.len ≡ 0
      → message_in (length store) a.message a.message.payload ≡ true
      → Cut a.message.payload.len size count
      → Holds store (emit_chunked a size count q).handle (emit_chunked a size count q).out took (acc ++ message_of store a.message ∷ [])
      (all ++ chunk_run store q.handle (chunked_record q a size count) (from_first size count) count)
  unfolding emit_chunked
  chunked_keeps a size count any room e i cut =
      rw (chunked_out q w a size count any room)
      (chunks_hold store q.handle q.out took acc all k (chunked_record q a size count) size count e i cut any)

module _ (store : List ℕ) (q : Queue) (took : List Frame) (acc : List Message) (all : List Frame)
    (k : Holds store q.handle q.out took acc all) (w : Well q) where
  module _ (a : Sending) (i : message_in (length store) a.message a.message.payload ≡ true) (s : Sendable a)
      (covered : Covered store q (send a)) where
    way_holds : (before : Bool) → flushes_before q.settings a.message q.out.batch ≡ before
        → let way = way_into q.settings a.message before (left_of q.settings a.message before q.out.batch) in
        Passed way q → Keeps store q (send a) took acc all (carried_out a q (go way))
    unfolding follow
    way_holds before e =
        let m = a.message in
        let t = q.settings in
        let limit = t.limits.max_message_size in
        let headroom = t.limits.metadata_reservation in
        let time = a.publish_time in
        let b = left_of t m before q.out.batch in
        let p = flush_if before time q in
        let f : q.out.waiting + one before ≤ outbound_size → AfterFlush before q p = λ r. flush_if_lem q w before time r in
        let h : q.out.waiting + one before ≤ outbound_size → Grows OfBatch store p.handle p.out took acc all =
        λ r. flush_if_holds store q took acc all k w before time r in
        let P : Way → Type 0 = λ x. Passed x q → Keeps store q (send a) took acc all (carried_out a q (go x)) in
        pick_ind P (large t m && not t.switches.chunking_enabled) _ _
        (λ x r.
        let g = h r.frames in
        plain_keeps store q (send a) took acc all _ tt
        (record { more = g.more; each = g.each; holds = still g.holds }))
        (λ within. pick_ind P (may_join t b m) _ _
        (λ j r.
        let room : q.out.waiting + one before ≤ outbound_size = omega (arith, r.frames) in
        let g = h room in
        let x = f room in
        let held : length p.out.held < held_size = rw x.held (leb-false held_size (length q.out.held) r.held) in
        let joined = join_keeps store p took acc (all ++ g.more) g.holds x.well a held (kept_of store m i s.bounds) (agreed q before m time e j) in
        let well = join_well p x.well a held (rw x.pending (r.pending refl)) s in
        plain_keeps store q (send a) took acc all _ tt
        (rw (append-nil took)
        (grows_more g.more g.each
        (flush_if_holds store (add_to_batch a p) took _ (all ++ g.more) joined well (is_full t _ _) time
        (rw (join_waiting a p) (omega (arith, x.waiting, r.frames)))))))
        (λ j. pick_ind P (large t m) _ _
        (λ y r.
        let room : q.out.waiting + one before ≤ outbound_size = omega (arith, r.frames) in
        let g = h room in
        let x = f room in
        let size = chunk_size_of t.limits in
        let count = total_chunks m.payload.len size in
        let cut = cut_holds m.payload.len size (size_some headroom limit covered) s.bounds.payload in
        let any = some_chunk m.payload.len size in
        let c = chunked_record p a size count in
        let own = chunk_run store p.handle c (from_first size count) count in
        let made : Cuts store t (send a) (done (emitted (length own))) own =
        one_cut y (chunking_on (large t m) t.switches.chunking_enabled within y) (chunks_cut store p.handle c size count cut any) in
        record {
          flushes = g.more;
          own = own;
          of_batch = g.each;
          cut = emits_many a own _ (omega (arith, run_length store p.handle c (from_first size count) count)) made;
          holds = rw (append-nil took)
              (chunked_keeps store p took acc (all ++ g.more) g.holds x.well a size count any
              (omega (arith, x.waiting, r.frames)) (emptied q before m time e j) i cut);
        })
        (λ y r.
        let room : q.out.waiting + one before ≤ outbound_size = omega (arith, r.frames) in
        let g = h room in
        let x = f room in
        record {
          flushes = g.more;
          own = single_frame store p.handle (single_record p a) ∷ [];
          of_batch = g.each;
          cut = not_cut y (record { uncounted = refl; unchunked = refl; payload_is = refl });
          holds = rw (append-nil took)
              (single_keeps store p took acc (all ++ g.more) g.holds x.well a
              (omega (arith, x.waiting, r.frames)) (emptied q before m time e j) i);
        })))

  pub send_holds : (a : Sending) → Ranged (send a) → Covered store q (send a) → Keeps store q (send a) took acc all (queue_send (length store) a q)
  send_holds a is64 covered =
      send_cases (length store) a q (Keeps store q (send a) took acc all)
      (λ n. plain_keeps store q (send a) took acc all _ tt (grows_none (still k)))
      (λ i b room. way_holds a i (sendable a b is64) covered (flushes_before q.settings a.message q.out.batch) refl room)
