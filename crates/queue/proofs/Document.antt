-- Where a definition is shorter than document 01's telling, the two are equal: by the cases of the tests, and by induction on what is counted.
use Prim.Native.Nat.{ℕ, zero, suc, ◌+◌, ◌-◌, ◌*◌, ◌^◌, ◌<◌, min}
use mathlib.Core.Path.{◌≡◌, refl, sym, ap, ◌∙◌}
use mathlib.Core.Bool.{Bool, true, false, not, ◌&&◌, ◌||◌}
use mathlib.Core.List.{List, [], ◌∷◌}
use native.Mathlib.Omega.{arith}
use lib.ListN.{length}
use native.Mathlib.Numerals.{add-one}
use native.Mathlib.Nat.{suc-mul}
use Rattle.laws.specs.Choice.{pick}
use Rattle.laws.specs.Numbers.{add_sat}
use Rattle.laws.proofs.Sums.{sat_fits, sat_zero}
use Rattle.types.specs.Empty.{empty_batch}
use Rattle.types.specs.declared.batch.BatchContainer.{BatchContainer}
use Rattle.types.specs.declared.entry.OpSend.{OpSend}
use Rattle.types.specs.declared.message.OutgoingMessage.{OutgoingMessage}
use Rattle.types.specs.declared.settings.ProducerSettings.{ProducerSettings}
use Rattle.types.specs.declared.way.Way.{Way}
use Rattle.queue.specs.Queue.{Queue}
use Rattle.queue.specs.Batch.{may_join, flushed}
use Rattle.queue.specs.Send.{Sending, large, other_txn, in_the_way, flushes_before, left_of, way_into, way_of, add_to_batch, emit_chunked, flush_if, follow}
use Rattle.queue.specs.Document.{told_way, by_size, sent, WayTold, SendTold, failed_each, FailedTold, chunk_messages, chunk_bytes, ChunkMessagesTold, ChunkBytesTold}

-- ── the way of a message, in two steps ──

module _ (t : ProducerSettings) (m : OutgoingMessage) (b : BatchContainer) where
  way_lem : way_of t m b ≡ told_way t m b
  unfolding flushes_before
  way_lem = go (other_txn t m b)
    where
      go : (other : Bool)
          → way_into t m (other || in_the_way t m b) (left_of t m (other || in_the_way t m b) b)
          ≡ way_into t m (other || in_the_way t m (left_of t m other b)) (left_of t m (in_the_way t m (left_of t m other b)) (left_of t m other b))
      go true = refl
      go false = refl

pub way_told : WayTold
way_told t m b = way_lem t m b

-- ── a send that is carried out, in document 01's order, on the queue itself ──

module _ (a : Sending) (q : Queue) where
  choices : (x y z : Bool) (u v w e : Way)
      → follow a (pick x u (pick y v (pick z w e))) q ≡ pick x (follow a u q) (pick y (follow a v q) (pick z (follow a w q) (follow a e q)))
  choices true y z u v w e = refl
  choices false true z u v w e = refl
  choices false false true u v w e = refl
  choices false false false u v w e = refl

  into_told : (before : Bool)
      → follow a (way_into q.settings a.message before (left_of q.settings a.message before q.out.batch)) q ≡ by_size a q (flush_if before a.publish_time q)
  unfolding follow flushed add_to_batch
  into_told true =
      let t = q.settings in
      choices (large t a.message && not t.switches.chunking_enabled) (may_join t empty_batch a.message) (large t a.message) _ _ _ _
  into_told false =
      let t = q.settings in
      choices (large t a.message && not t.switches.chunking_enabled) (may_join t q.out.batch a.message) (large t a.message) _ _ _ _

  send_lem : follow a (way_of q.settings a.message q.out.batch) q ≡ sent a q
  unfolding flushes_before flushed
  send_lem = go (other_txn q.settings a.message q.out.batch) (in_the_way q.settings a.message q.out.batch) refl
    where
      go : (x y : Bool) → in_the_way q.settings a.message q.out.batch ≡ y
          → let p = flush_if x a.publish_time q in
          follow a (way_into q.settings a.message (x || y) (left_of q.settings a.message (x || y) q.out.batch)) q
          ≡ by_size a q (flush_if (in_the_way q.settings a.message p.out.batch) a.publish_time p)
      go true y e = into_told true
      go false true e = rw e (into_told true)
      go false false e = rw e (into_told false)

pub send_told : SendTold
send_told a q = send_lem a q

-- ── sums that are raised one by one ──

each_sum : (dropped : List OpSend) (x : ℕ) → x < 2 ^ 64 → failed_each dropped x ≡ add_sat x (length dropped)
each_sum [] x h = sym (sat_zero x h)
each_sum (op ∷ dropped) x h = each_sum dropped (add_sat x 1) (sat_fits x 1) ∙ omega arith

pub failed_told : FailedTold
failed_told dropped k h = sym (each_sum dropped k.total_send_failed h)

messages_sum : (n x : ℕ) → x < 2 ^ 64 → chunk_messages n x ≡ add_sat x n
unfolding chunk_messages
messages_sum zero x h = sym (sat_zero x h)
messages_sum (suc n) x h = messages_sum n (add_sat x 1) (sat_fits x 1) ∙ omega arith

pub chunk_messages_told : ChunkMessagesTold
unfolding emit_chunked
chunk_messages_told a size count q h = sym (messages_sum count q.counters.total_msgs_sent h)

sat_sum : (x c d : ℕ) → add_sat (add_sat x c) d ≡ add_sat x (c + d)
sat_sum x c d = omega arith

-- a chunk that ends at `next`, and n bytes more
chunk_sum : (len size at next n : ℕ) → next ≡ at + size → min size (len - at) + min (len - next) n ≡ min (len - at) (size + n)
chunk_sum len size at next n e = omega arith

chunk_bytes_lem : (len size n k x : ℕ) → x < 2 ^ 64 → chunk_bytes len size k n x ≡ add_sat x (min (len - k * size) (n * size))
unfolding chunk_bytes
chunk_bytes_lem len size zero k x h = omega arith
chunk_bytes_lem len size (suc n) k x h =
    let c = min size (len - k * size) in
    let d = min (len - (k + 1) * size) (n * size) in
    let next : (k + 1) * size ≡ k * size + size = rw add-one (suc-mul k size) in
    let more : size + n * size ≡ suc n * size = omega (arith, suc-mul n size) in
    let sum : c + d ≡ min (len - k * size) (suc n * size) = rw (← more) (chunk_sum len size (k * size) ((k + 1) * size) (n * size) next) in
    chunk_bytes_lem len size n (k + 1) (add_sat x c) (sat_fits x c) ∙ sat_sum x c d ∙ ap (add_sat x) sum

pub chunk_bytes_told : ChunkBytesTold
unfolding emit_chunked
chunk_bytes_told a size count q h =
    let len = a.message.payload.len in
    let z : min len (count * size) ≡ min (len - 0 * size) (count * size) = omega arith in
    rw z (sym (chunk_bytes_lem len size count 0 q.counters.total_bytes_sent h))
