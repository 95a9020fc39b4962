-- Where a definition is shorter than document 01's telling, the telling, and the statement that the two are equal: a send step by step, and sums
-- that are raised one by one.
use Rattle.std.specs.Prelude.{ℕ, zero, suc, ◌+◌, ◌-◌, ◌*◌, ◌^◌, ◌<◌, ◌≡◌, min, not, ◌&&◌, ◌||◌, List, [], ◌∷◌, length}
use Rattle.laws.specs.Choice.{pick}
use Rattle.laws.specs.Numbers.{add_sat}
use Rattle.types.specs.declared.batch.BatchContainer.{BatchContainer}
use Rattle.types.specs.declared.entry.OpSend.{OpSend}
use Rattle.types.specs.declared.message.OutgoingMessage.{OutgoingMessage}
use Rattle.types.specs.declared.settings.ProducerSettings.{ProducerSettings}
use Rattle.types.specs.declared.stats.Counters.{Counters}
use Rattle.types.specs.declared.way.Way.{Way}
use Rattle.queue.specs.Queue.{Queue}
use Rattle.queue.specs.Batch.{may_join, is_full}
use Rattle.queue.specs.Send.{Sending, large, chunk_size_of, total_chunks, other_txn, in_the_way, left_of, way_into, way_of, add_to_batch, emit_single, emit_chunked, flush_if, follow}
use Rattle.queue.specs.Tables.{failed}

-- ── the way of a message, in two steps ('sends') ──

module _ (t : ProducerSettings) (m : OutgoingMessage) (b : BatchContainer) where
  -- a waiting batch of another transaction is flushed (batching on)
  abbrev pub after_other : BatchContainer
  after_other = left_of t m (other_txn t m b) b

  -- if the message cannot join and a batch waits, that is flushed and joining tried again
  abbrev pub after_both : BatchContainer
  after_both = left_of t m (in_the_way t m after_other) after_other

  abbrev pub told_way : Way
  told_way = way_into t m (other_txn t m b || in_the_way t m after_other) after_both

abbrev pub WayTold : Type 0
WayTold = (t : ProducerSettings) (m : OutgoingMessage) (b : BatchContainer) → way_of t m b ≡ told_way t m b

-- ── a send that is carried out, in document 01's order, on the queue itself ('sends') ──

module _ (a : Sending) (q : Queue) where
  -- a waiting batch of another transaction is flushed
  abbrev pub other_flushed : Queue
  other_flushed = flush_if (other_txn q.settings a.message q.out.batch) a.publish_time q

  -- if the message cannot join and a batch waits, that is flushed
  abbrev pub both_flushed : Queue
  both_flushed = flush_if (in_the_way q.settings a.message other_flushed.out.batch) a.publish_time other_flushed

  -- after joining, the batch is flushed if its count or sum has reached its limit
  abbrev pub full_flushed : Queue → Queue
  full_flushed p = flush_if (is_full q.settings p.out.batch.len p.out.batch.current_size_bytes) a.publish_time p

  -- then size: above the limit, with chunking off that is all; with chunking on it joins if it can, else it is chunked
  abbrev pub by_size : Queue → Queue
  by_size p =
      let t = q.settings in
      let m = a.message in
      let size = chunk_size_of t.limits in
      pick (large t m && not t.switches.chunking_enabled) p
      (pick (may_join t p.out.batch m) (full_flushed (add_to_batch a p))
      (pick (large t m) (emit_chunked a size (total_chunks m.payload.len size) p)
      (emit_single a p)))

  abbrev pub sent : Queue
  sent = by_size both_flushed

abbrev pub SendTold : Type 0
SendTold = (a : Sending) (q : Queue) → follow a (way_of q.settings a.message q.out.batch) q ≡ sent a q

-- ── sums that are raised one by one; that a counter is below 2^64 only says that it has its type's range ──

-- each dropped entry raises `total_send_failed` by one up to 2^64 - 1 ('receipts, errors, snapshot, replay')
abbrev pub failed_each : List OpSend → ℕ → ℕ
failed_each [] x = x
failed_each (op ∷ dropped) x = failed_each dropped (add_sat x 1)

abbrev pub FailedTold : Type 0
FailedTold =
    (dropped : List OpSend) (k : Counters) → k.total_send_failed < 2 ^ 64
    → (failed (length dropped) k).total_send_failed ≡ failed_each dropped k.total_send_failed

-- n chunks, each counted as one message
unfoldable pub chunk_messages : ℕ → ℕ → ℕ
chunk_messages zero x = x
chunk_messages (suc n) x = chunk_messages n (add_sat x 1)

-- n chunks from the k-th on, each with its own bytes
unfoldable pub chunk_bytes : ℕ → ℕ → ℕ → ℕ → ℕ → ℕ
chunk_bytes len size k zero x = x
chunk_bytes len size k (suc n) x = chunk_bytes len size (k + 1) n (add_sat x (min size (len - k * size)))

abbrev pub ChunkMessagesTold : Type 0
ChunkMessagesTold =
    (a : Sending) (size count : ℕ) (q : Queue) → q.counters.total_msgs_sent < 2 ^ 64
    → (emit_chunked a size count q).counters.total_msgs_sent ≡ chunk_messages count q.counters.total_msgs_sent

abbrev pub ChunkBytesTold : Type 0
ChunkBytesTold =
    (a : Sending) (size count : ℕ) (q : Queue) → q.counters.total_bytes_sent < 2 ^ 64
    → (emit_chunked a size count q).counters.total_bytes_sent ≡ chunk_bytes a.message.payload.len size 0 count q.counters.total_bytes_sent
