-- What one push appends is read back: a single frame, a batch frame, the chunks of a message. A reading goes on frame by frame, so that frames
-- that end between two messages can be read on their own.
use Rattle.std.specs.Prelude.{Option, Some, None}
use Prim.Native.Nat.{ℕ, zero, suc, ◌+◌, ◌*◌, ◌≤◌, ◌<◌}
use mathlib.Core.Path.{◌≡◌, refl, sym, ap, ◌∙◌}
use mathlib.Core.List.{List, [], ◌∷◌, ◌++◌, append_assoc, append-nil, map}
use native.Mathlib.Omega.{arith}
use native.Mathlib.Numerals.{add-one}
use native.Mathlib.Nat.{suc-mul}
use lib.ListN.{length, take, drop}
use lib.Seq.{take-add, drop-drop}
use borrow.Author.Tests.{eq-eqb, ne_eqb}
use Rattle.types.specs.Values.{part_of}
use Rattle.types.specs.declared.frame.BatchFrame.{BatchFrame}
use Rattle.types.specs.declared.frame.ChunkedMessageContext.{ChunkedMessageContext}
use Rattle.types.specs.declared.frame.FrameRecord.{FrameRecord}
use Rattle.types.specs.declared.message.SingleMessage.{SingleMessage}
use Rattle.types.specs.declared.types.ProducerHandle.{ProducerHandle}
use Rattle.wire.specs.Batch.{All, item_of, WithinBounds}
use Rattle.wire.proofs.ItemLaws.{read_batch}
use Rattle.queue.specs.Frame.{Frame, single_frame, batch_frame, chunk_frame, chunk_part}
use Rattle.queue.specs.Take.{next_chunk}
use Rattle.queue.specs.Message.{Message, message_of}
use Rattle.queue.specs.Read.{item_message, with_bytes, Place, between, inside, Reading, chunks_read, read_frame, before, and_then, read_from}
use Rattle.types.specs.declared.txn.TxnId.{TxnId}

-- ── frames in a row ──

before_nil : (r : Reading) → before [] r ≡ r
before_nil None = refl
before_nil (Some p) = refl

before_before : (xs ys : List Message) (r : Reading) → before xs (before ys r) ≡ before (xs ++ ys) r
before_before xs ys None = refl
before_before xs ys (Some p) = rw (append_assoc xs ys p.1)

before_then : (xs : List Message) (r : Reading) (f : Place → Reading) → before xs (and_then r f) ≡ and_then (before xs r) f
before_then xs None f = refl
before_then xs (Some p) f = before_before xs p.1 (f p.0)

read_append : (at : Place) (a b : List Frame) → read_from at (a ++ b) ≡ and_then (read_from at a) (λ at₂. read_from at₂ b)
unfolding read_from
read_append at [] b = sym (before_nil (read_from at b))
read_append at (f ∷ a) b = go (read_frame at f) (λ at₂. read_append at₂ a b)
  where
    go : (r : Reading) → ((at₂ : Place) → read_from at₂ (a ++ b) ≡ and_then (read_from at₂ a) (λ at₃. read_from at₃ b))
        → and_then r (λ at₂. read_from at₂ (a ++ b)) ≡ and_then (and_then r (λ at₂. read_from at₂ a)) (λ at₂. read_from at₂ b)
    go None again = refl
    go (Some p) again = rw (again p.0) (before_then p.1 (read_from p.0 a) (λ at₂. read_from at₂ b))

-- frames that are read as whole messages
abbrev pub ReadAs : List Frame → List Message → Type 0
ReadAs fs ms = read_from between fs ≡ Some (between, ms)

pub read_more : (a b : List Frame) (xs ys : List Message) → ReadAs a xs → ReadAs b ys → ReadAs (a ++ b) (xs ++ ys)
read_more a b xs ys p q = rw (read_append between a b, p, q)

-- ── a single frame, and a batch frame ──

pub read_single_lem : (store : List ℕ) (handle : ProducerHandle) (r : FrameRecord)
    → ReadAs (single_frame store handle r ∷ []) (message_of store r.message ∷ [])
unfolding read_from read_frame
read_single_lem store handle r = refl

-- the messages of a batch of a transaction
abbrev pub batch_messages : List ℕ → Option TxnId → List SingleMessage → List Message
batch_messages store txn ms = map (item_message txn) (map (item_of store) ms)

pub read_batch_frame : (store : List ℕ) (handle : ProducerHandle) (r : FrameRecord) (b : BatchFrame) (ms : List SingleMessage)
    → b.num_messages ≡ length ms → All WithinBounds ms
    → ReadAs (batch_frame store handle r b ms ∷ []) (batch_messages store b.txn_id ms)
unfolding read_from read_frame
read_batch_frame store handle r b ms e h =
    rw (e, read_batch store ms h) (ap (λ (l : List Message). Some (between, l)) (append-nil (batch_messages store b.txn_id ms)))

-- ── the chunks of a message ──

-- n chunks from the next one on
unfoldable pub chunk_run : List ℕ → ProducerHandle → FrameRecord → ChunkedMessageContext → ℕ → List Frame
chunk_run store handle r c zero = []
chunk_run store handle r c (suc n) = chunk_frame store handle r c ∷ chunk_run store handle r (next_chunk c) n

pub run_length : (store : List ℕ) (handle : ProducerHandle) (r : FrameRecord) (c : ChunkedMessageContext) (n : ℕ)
    → length (chunk_run store handle r c n) ≡ n
unfolding chunk_run
run_length store handle r c zero = refl
run_length store handle r c (suc n) = omega (arith, run_length store handle r (next_chunk c) n)

-- all the chunks wait
abbrev pub from_first : ℕ → ℕ → ChunkedMessageContext
from_first size count = record { total_chunks = count; next_chunk = 0; max_chunk_size = size }

-- chunks of a size that fill a payload, of which none but the last ends past it
pub record Cut (len size count : ℕ) : Type 0 where
  pub covers : len ≤ count * size
  pub within : (k : ℕ) → k < count → k * size ≤ len

module _ (store : List ℕ) (handle : ProducerHandle) (r : FrameRecord) where
  -- the message with the first n bytes of its payload
  abbrev first : ℕ → Message
  first n =
      let m = message_of store r.message in
      record {
        payload = take n (drop r.message.payload.start store);
        partition_key = m.partition_key;
        ordering_key = m.ordering_key;
        event_time = m.event_time;
        null_value = m.null_value;
        null_partition_key = m.null_partition_key;
        txn = m.txn;
      }

  -- a chunk more is read
  module _ (c : ChunkedMessageContext) where
    abbrev at : ℕ
    at = c.next_chunk * c.max_chunk_size

    chunk_joined : with_bytes (first at) (part_of store (chunk_part r c)) ≡ first (at + (chunk_part r c).len)
    chunk_joined =
        let p = r.message.payload in
        rw (take-add at (chunk_part r c).len (drop p.start store), drop-drop at p.start store)

    chunk_read : read_frame (inside r.sequence_id c.total_chunks c.next_chunk (first at)) (chunk_frame store handle r c)
        ≡ chunks_read r.sequence_id c.total_chunks (c.next_chunk + 1) (first (at + (chunk_part r c).len))
    unfolding read_frame
    chunk_read =
        rw (
          eq-eqb r.sequence_id.0 r.sequence_id.0 refl,
          eq-eqb c.total_chunks c.total_chunks refl,
          eq-eqb c.next_chunk c.next_chunk refl,
          chunk_joined,
        )

  run_ends : (n : ℕ) (c : ChunkedMessageContext) → Cut r.message.payload.len c.max_chunk_size c.total_chunks
      → c.next_chunk + suc n ≡ c.total_chunks
      → read_from (inside r.sequence_id c.total_chunks c.next_chunk (first (at c))) (chunk_run store handle r c (suc n))
      ≡ Some (between, message_of store r.message ∷ [])
  unfolding read_from chunk_run
  run_ends zero c cut e =
      let k = c.next_chunk in
      let size = c.max_chunk_size in
      let len = r.message.payload.len in
      let last : k + 1 ≡ c.total_chunks = omega arith in
      let covers : len ≤ suc k * size = rw (sym (add-one k) ∙ last) cut.covers in
      let below : k * size ≤ len = cut.within k (omega arith) in
      let full : at c + (chunk_part r c).len ≡ len = omega (arith, suc-mul k size) in
      rw (chunk_read c, eq-eqb (k + 1) c.total_chunks last, full)
  run_ends (suc n) c cut e =
      let k = c.next_chunk in
      let size = c.max_chunk_size in
      let len = r.message.payload.len in
      let mul : (k + 1) * size ≡ k * size + size = rw add-one (suc-mul k size) in
      let below : (k + 1) * size ≤ len = cut.within (k + 1) (omega arith) in
      let part : at c + (chunk_part r c).len ≡ (k + 1) * size = omega arith in
      rw (chunk_read c, ne_eqb (k + 1) c.total_chunks (λ x. omega arith), part)
      (rw before_nil (run_ends n (next_chunk c) cut (omega arith)))

  run_starts : (n size count : ℕ) → read_from between (chunk_run store handle r (from_first size count) (suc n))
      ≡ read_from (inside r.sequence_id count 0 (first (0 * size))) (chunk_run store handle r (from_first size count) (suc n))
  unfolding read_from chunk_run read_frame
  run_starts n size count =
      let z : 0 * size ≡ 0 = omega arith in
      rw (eq-eqb r.sequence_id.0 r.sequence_id.0 refl, eq-eqb count count refl, z)

  pub read_chunks : (n size count : ℕ) → Cut r.message.payload.len size count → suc n ≡ count
      → ReadAs (chunk_run store handle r (from_first size count) (suc n)) (message_of store r.message ∷ [])
  read_chunks n size count cut e = run_starts n size count ∙ run_ends n (from_first size count) cut (omega arith)
