-- The moves of a send, each where there is room: the push appends, and the queue stays well.
use Prim.Native.Nat.{ℕ, ◌+◌, ◌≤◌, ◌<◌}
use mathlib.Core.Path.{◌≡◌, refl, ap}
use mathlib.Core.Bool.{Bool, true, false, ◌&&◌}
use native.Mathlib.Omega.{arith}
use lib.ListN.{length}
use lib.IntN.{pos}
use lib.Dec.{eqb}
use borrow.Author.Tests.{lt-ltb, eq-eqb}
use Rattle.types.specs.Empty.{empty_batch}
use Rattle.types.specs.declared.entry.Replay.TheVariants as replays
use Rattle.types.specs.declared.frame.FrameKind.TheVariants as kind
use Rattle.types.specs.declared.frame.FrameRecord.{FrameRecord}
use Rattle.queue.specs.Queue.{Queue, Outgoing}
use Rattle.queue.specs.Batch.{at_least_one, single_of, grown, with_batch, batch_record, flushed}
use Rattle.queue.specs.Send.{Sending, total_chunks, within_bounds, one, entry, record_of, add_to_batch, emit_single, emit_chunked, flush_if}
use Rattle.queue.specs.Sizes.{outbound_size, held_size, pending_size}
use Rattle.queue.proofs.ItemBounds.{Sendable}
use Rattle.queue.proofs.Sound.{Sound, appended, push_room, append_sound, flush_sound, joined_to, join_sound}
use Rattle.queue.proofs.Entries.{Entries, one_more, some_chunk}

pub record Well (q : Queue) : Type 0 where
  pub out : Sound q.out
  pub pending : Entries q.pending

-- ── the moves of a send, where there is room ──

-- the records that a send pushes of its own message
abbrev pub single_record : Queue → Sending → FrameRecord
single_record q a = record_of (entry a (pos (at_least_one a.message.num_messages)) replays.Single q) kind.Single

abbrev pub chunked_record : Queue → Sending → ℕ → ℕ → FrameRecord
chunked_record q a size count =
    record_of (entry a (pos 1) (replays.Chunked count size) q)
    (kind.Chunked (record { total_chunks = count; next_chunk = 0; max_chunk_size = size }))

module _ (q : Queue) (k : Well q) where
  pub flush_out : (time : ℕ) → q.out.waiting + 1 ≤ outbound_size
      → (flushed time q).out ≡ with_batch empty_batch (appended (batch_record q.settings time q.out.batch) 1 q.out)
  unfolding flushed
  flush_out time room = ap (with_batch empty_batch) (push_room q.out (batch_record q.settings time q.out.batch) 1 k.out (omega arith) room)

  pub join_out : (a : Sending) → length q.out.held < held_size
      → (add_to_batch a q).out ≡ joined_to (single_of a.message) (grown a.message q.ids.next_sequence_id.0 a.now q.out.batch) q.out
  unfolding add_to_batch
  join_out a room = rw (lt-ltb (length q.out.held) held_size room)

  pub single_out_lem : (a : Sending) → q.out.waiting + 1 ≤ outbound_size → (emit_single a q).out ≡ appended (single_record q a) 1 q.out
  unfolding emit_single
  single_out_lem a room = push_room q.out (single_record q a) 1 k.out (omega arith) room

  pub chunked_out : (a : Sending) (size count : ℕ) → 1 ≤ count → q.out.waiting + count ≤ outbound_size
      → (emit_chunked a size count q).out ≡ appended (chunked_record q a size count) count q.out
  unfolding emit_chunked
  chunked_out a size count any room = push_room q.out (chunked_record q a size count) count k.out any room

  pub flush_well : (time : ℕ) → q.out.waiting + 1 ≤ outbound_size → Well (flushed time q)
  unfolding flushed
  flush_well time room =
      record { out = rw (flush_out time room) (flush_sound q.out q.settings time k.out room); pending = k.pending }

  pub join_well : (a : Sending) → length q.out.held < held_size → length q.pending < pending_size → Sendable a → Well (add_to_batch a q)
  unfolding add_to_batch
  join_well a held pending s =
      record {
        out = rw (join_out a held) (join_sound q.out a.message q.ids.next_sequence_id.0 a.now k.out held s.bounds);
        pending = rw (lt-ltb (length q.pending) pending_size pending) (one_more q.pending _ k.pending pending s.within);
      }

  pub single_well : (a : Sending) → q.out.waiting + 1 ≤ outbound_size → length q.pending < pending_size → Sendable a → Well (emit_single a q)
  unfolding emit_single
  single_well a room pending s =
      record {
        out = rw (single_out_lem a room) (append_sound q.out (single_record q a) 1 k.out refl refl (omega arith) room);
        pending = rw (lt-ltb (length q.pending) pending_size pending) (one_more q.pending _ k.pending pending s.within);
      }

  pub chunked_well : (a : Sending) (size count : ℕ) → count ≡ total_chunks a.message.payload.len size → q.out.waiting + count ≤ outbound_size
      → length q.pending < pending_size → Sendable a → Well (emit_chunked a size count q)
  unfolding emit_chunked
  chunked_well a size count e room pending s =
      let any : 1 ≤ count = rw e (some_chunk a.message.payload.len size) in
      let formed : (eqb count (total_chunks a.message.payload.len size) && within_bounds a.message a.reserved) ≡ true =
      rw (eq-eqb count (total_chunks a.message.payload.len size) e) s.within in
      record {
        out = rw (chunked_out a size count any room) (append_sound q.out (chunked_record q a size count) count k.out (omega arith) refl any room);
        pending = rw (lt-ltb (length q.pending) pending_size pending) (one_more q.pending _ k.pending pending formed);
      }

-- ── the flush before or after ──

pub record AfterFlush (flush : Bool) (q p : Queue) : Type 0 where
  pub well : Well p
  pub waiting : p.out.waiting ≡ q.out.waiting + one flush
  pub held : p.out.held ≡ q.out.held
  pub pending : p.pending ≡ q.pending

pub flush_if_lem : (q : Queue) → Well q → (flush : Bool) (time : ℕ) → q.out.waiting + one flush ≤ outbound_size → AfterFlush flush q (flush_if flush time q)
unfolding flushed
flush_if_lem q k true time room =
    let e = flush_out q k time room in
    record { well = flush_well q k time room; waiting = ap (λ (o : Outgoing). o.waiting) e; held = refl; pending = refl }
flush_if_lem q k false time room = record { well = k; waiting = omega arith; held = refl; pending = refl }

pub join_waiting : (a : Sending) (q : Queue) → (add_to_batch a q).out.waiting ≡ q.out.waiting
unfolding add_to_batch
join_waiting a q = refl
