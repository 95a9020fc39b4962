-- How a message is cut: with a limit of at least 1 its chunks fill it, and none is longer than the size.
use Prim.Native.Nat.{ℕ, zero, suc, ◌+◌, ◌-◌, ◌*◌, ◌/◌, ◌%◌, ◌≤◌, ◌<◌, min, max}
use mathlib.Core.Path.{◌≡◌, refl, sym, ◌∙◌}
use mathlib.Core.List.{List, append-nil}
use native.Mathlib.Omega.{arith}
use native.Mathlib.Numerals.{add-one}
use native.Mathlib.Nat.{div-add-mod', mod-lt, suc-mul, mul-le-mul_right, mul-le-mul_left}
use lib.ListN.{length, take, drop, length-take}
use lib.Seq.{take-add, drop-drop}
use lib.Dec.{ltb}
use borrow.Author.Tests.{ltb-true, ne_eqb}
use Rattle.types.specs.Bounds.{longest_payload}
use Rattle.types.specs.Values.{part_of}
use Rattle.types.specs.declared.frame.ChunkedMessageContext.{ChunkedMessageContext}
use Rattle.types.specs.declared.frame.FrameRecord.{FrameRecord}
use Rattle.types.specs.declared.types.ProducerHandle.{ProducerHandle}
use Rattle.queue.specs.Send.{chunk_size, total_chunks}
use Rattle.queue.specs.Frame.{chunk_part}
use Rattle.queue.specs.Take.{next_chunk}
use Rattle.queue.specs.Chunks.{Numbered, payloads, Chunks}
use Rattle.laws.proofs.Choice.{pick_ind}
use Rattle.queue.proofs.Reading.{chunk_run, from_first, Cut}

pub size_some : (headroom limit : ℕ) → 1 ≤ limit → 1 ≤ chunk_size headroom limit
size_some headroom limit h =
    pick_ind (λ n. 1 ≤ n) (ltb (4 * headroom) limit) _ _ (λ e. omega (arith, ltb-true (4 * headroom) limit e)) (λ e. omega arith)

-- a quotient that is rounded up, and what is left over
module _ (len size : ℕ) (h : 1 ≤ size) where
  rounded : ℕ
  rounded = (len + (size - 1)) / size

  over : ℕ
  over = (len + (size - 1)) % size

  divides : rounded * size + over ≡ len + (size - 1)
  unfolding rounded over
  divides = div-add-mod' (len + (size - 1)) size

  over_low : over < size
  unfolding over
  over_low = mod-lt (len + (size - 1)) (omega arith)

  few : (d r : ℕ) → d * size + r ≡ len + (size - 1) → d ≤ len + 1
  few zero r e = omega arith
  few (suc d) r e =
      let low : d * 1 ≤ d * size = mul-le-mul_left d h in
      omega (arith, suc-mul d size)

  -- the count does not stop at 2^31 - 1
  count_is : len ≤ longest_payload → total_chunks len size ≡ max rounded 1
  unfolding rounded
  count_is short =
      let f : (len + (size - 1)) / size ≤ len + 1 = few rounded over divides in
      rw (ne_eqb size 0 (λ e. omega arith)) (omega arith)

  covered : (d r : ℕ) → d * size + r ≡ len + (size - 1) → r < size → len ≤ max d 1 * size
  covered d r e low = let b : d * size ≤ max d 1 * size = mul-le-mul_right size (omega arith) in omega arith

  inner : (d r : ℕ) → d * size + r ≡ len + (size - 1) → r < size → (k : ℕ) → k < max d 1 → k * size ≤ len
  inner zero r e low zero b = omega arith
  inner zero r e low (suc k) b = absurd (omega arith)
  inner (suc d) r e low k b =
      let c : suc k * size ≤ suc d * size = mul-le-mul_right size (omega arith) in
      omega (arith, suc-mul k size)

  pub cut_holds : len ≤ longest_payload → Cut len size (total_chunks len size)
  cut_holds short =
      rw (count_is short)
      (record { covers = covered rounded over divides over_low; within = inner rounded over divides over_low })

-- ── the chunks as frames ──

module _ (store : List ℕ) (handle : ProducerHandle) (r : FrameRecord) where
  numbered : (n : ℕ) (c : ChunkedMessageContext) → c.next_chunk + n ≡ c.total_chunks
      → Numbered r.sequence_id c.max_chunk_size c.total_chunks c.next_chunk (chunk_run store handle r c n)
  unfolding chunk_run
  numbered zero c e = omega arith
  numbered (suc n) c e =
      let short : length (part_of store (chunk_part r c)) ≤ c.max_chunk_size = rw length-take (omega arith) in
      (refl, refl, refl, short, numbered n (next_chunk c) (omega arith))

  -- what is left of the payload from a chunk on
  joins : (n : ℕ) (c : ChunkedMessageContext) → Cut r.message.payload.len c.max_chunk_size c.total_chunks
      → c.next_chunk + suc n ≡ c.total_chunks
      → let at = c.next_chunk * c.max_chunk_size in
      payloads (chunk_run store handle r c (suc n)) ≡ take (r.message.payload.len - at) (drop (r.message.payload.start + at) store)
  unfolding chunk_run
  joins zero c cut e =
      let k = c.next_chunk in
      let size = c.max_chunk_size in
      let len = r.message.payload.len in
      let last : k + 1 ≡ c.total_chunks = omega arith in
      let covers : len ≤ suc k * size = rw (sym (add-one k) ∙ last) cut.covers in
      let full : min size (len - k * size) ≡ len - k * size = omega (arith, suc-mul k size) in
      rw (append-nil, full)
  joins (suc n) c cut e =
      let k = c.next_chunk in
      let size = c.max_chunk_size in
      let len = r.message.payload.len in
      let start = r.message.payload.start in
      let mul : (k + 1) * size ≡ k * size + size = rw add-one (suc-mul k size) in
      let below : (k + 1) * size ≤ len = cut.within (k + 1) (omega arith) in
      let full : min size (len - k * size) ≡ size = omega arith in
      let rest : start + (k + 1) * size ≡ start + k * size + size = omega arith in
      let sum : len - k * size ≡ size + (len - (k + 1) * size) = omega arith in
      rw (
        joins n (next_chunk c) cut (omega arith),
        full,
        sum,
        take-add size (len - (k + 1) * size) (drop (start + k * size) store),
        drop-drop size (start + k * size) store,
        rest,
      )

  pub chunks_cut : (size count : ℕ) → Cut r.message.payload.len size count → 1 ≤ count
      → Chunks size (part_of store r.message.payload) (chunk_run store handle r (from_first size count) count)
  chunks_cut size zero cut any = absurd (omega arith)
  chunks_cut size (suc n) cut any =
      let p = r.message.payload in
      let zero-at : p.start + 0 * size ≡ p.start = omega arith in
      let whole : p.len - 0 * size ≡ p.len = omega arith in
      record {
        id = r.sequence_id;
        count = suc n;
        numbered = numbered (suc n) (from_first size (suc n)) (omega arith);
        joins = rw (zero-at, whole) at (joins n (from_first size (suc n)) cut (omega arith));
      }
