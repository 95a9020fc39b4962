-- A take, from the plan to the queue of the definitions: the frame that the plan answers is the first of the front record, and the
-- state after it has the rest. Assumes nothing.
use Rattle.std.specs.Prelude.{Err, None, Ok, Option, Result, Some}
use Rattle.std.proofs.Common.{◌≡◌, ℕ, ◌+◌, ◌-◌, ◌*◌, ◌^◌, ◌<◌, ◌≤◌, min, Bool, true, false, ◌&&◌, ltb, leb, List, [], ◌∷◌, ◌++◌, length, get_or, take, drop, set, sym, refl, ap, ◌∙◌, subst, add-zero, arith, lit<, length-drop, length-set, length-take-le, take_all, take_at, ltb-false, le-ltb, lt-ltb, eq-eqb, ne_eqb}
use native.Mathlib.Decide.{dec_lt}
use Rattle.laws.specs.Choice.{pick}
use Rattle.laws.specs.Numbers.{add_sat}
use Rattle.laws.specs.Ring.{ring, slot}
use Rattle.laws.proofs.Choice.{pick_true, pick_false, differ, false_true}
use Rattle.laws.proofs.Rings.{length_ring, ring_set, ring_take, ring_drop, ring_drops, ring_pop, ring_none}
use Rattle.types.specs.Bounds.{longest_name}
use Rattle.types.specs.declared.error.ProducerError.TheVariants.{NoFrame, PartOutside, TooShort}
use Rattle.types.specs.declared.frame.BatchFrame.{BatchFrame}
use Rattle.types.specs.declared.frame.FrameRecord.{FrameRecord}
use Rattle.types.specs.declared.frame.FrameKind.{FrameKind}
use Rattle.types.specs.declared.frame.FrameKind.TheVariants.{Single, Batch, Chunked}
use Rattle.types.specs.declared.message.SingleMessage.{SingleMessage}
use Rattle.types.specs.declared.frame.ProducerName.{ProducerName}
use Rattle.types.specs.declared.message.OutgoingMessage.{OutgoingMessage}
use Rattle.types.specs.declared.message.Part.{Part}
use Rattle.types.specs.declared.outbound.FrameName.TheVariants.{Own, Producer}
use Rattle.types.specs.declared.outbound.OutboundFrame.{OutboundFrame}
use Rattle.types.specs.Values.{part_of, clipped, name_of, part_in, maybe_in}
use Rattle.wire.specs.Batch.{batch_payload}
use Rattle.wire.specs.Buffer.{Room, Puts}
use Rattle.wire.specs.Length.{stopped, batch_length}
use Rattle.wire.proofs.Lengths.{batch_length_lem}
use Rattle.queue.specs.Queue.{Queue, Answer, refuse, with_out, done}
use Rattle.queue.specs.Frame.{Frame, first_frame, frame_in, borne_in, chunk_part, all_in}
use Rattle.queue.specs.Sizes.{outbound_size, held_size}
use Rattle.queue.specs.Take.{with_kind, next_chunk, rest_of, holds, after_take, take_from, next_outbound_frame, written}
use Rattle.queue.specs.Told.{Kept}
use Rattle.frames.specs.Span.{name_in, borne, span_of, is_batch, held_count}
use Rattle.producer.proofs.Payload.{payload_of, Writable}
use Rattle.frames.specs.Answer.{fitting, answer_of}
use Rattle.frames.specs.Outbound.{present_if, frame_out}
use Rattle.frames.specs.After.{has_next, stays_of, kind_after}
use Rattle.rules.specs.Rings.{without_front}
use Rattle.plans.specs.Take.{rings_taken, plan_of, plan_with, take_planned}
use Rattle.plans.specs.State.{core_rings}
use Rattle.types.specs.declared.types.ProducerHandle.{ProducerHandle}
use Rattle.rows.specs.Frame.{decode_frame, decode_kind}
use Rattle.rows.specs.Rings.{decode_rings}
use Rattle.rows.specs.declared.frame.FrameRow.{FrameRow}
use Rattle.rows.specs.declared.frame.KindRow.{KindRow}
use Rattle.rows.specs.declared.rings.RingsRow.{RingsRow}
use lib.ListN.{get_or-map}
use Rattle.std.specs.Prelude.{map}
use Rattle.producer.proofs.Rows.{stored_row}
use Rattle.producer.specs.declared.state.ProducerState.{ProducerState}
use Rattle.frames.specs.declared.span.Span.{Span}
use Rattle.plans.specs.declared.take.TakePlan.{TakePlan}
use Rattle.frames.proofs.Batches.{all_in_lem}
use Rattle.frames.proofs.Pieces.{some_picked, is_there, there_if, piece_of}
use Rattle.producer.specs.View.{queue_of}
use Rattle.producer.specs.Take.{name_told, frame_told, told_frame, OwnParts}
use Rattle.rules.specs.declared.rings.Rings.{Rings}
use Rattle.producer.specs.State.{State, state_of}
use Rattle.producer.proofs.Full.{Full}
use Rattle.types.specs.declared.error.ProducerError.{ProducerError}

-- ── numbers and lists ──

-- a count that may be larger than what is there
ring_takes : {A : Type 0} (a : List A) → length a ≡ held_size → (h n m : ℕ) → ring held_size a h (min m (min n held_size)) ≡ take m (ring held_size a h n)
ring_takes {A} a len h n m = ring_take held_size (lit< tt) a len h (min m (min n held_size)) n (omega arith) ∙ go (dec_lt m (min n held_size))
  where
    e : length (ring held_size a h n) ≡ min n held_size
    e = length_ring held_size (lit< tt) a len h n

    go : Dec (m < min n held_size) → take (min m (min n held_size)) (ring held_size a h n) ≡ take m (ring held_size a h n)
    go (yes p) = let k : min m (min n held_size) ≡ m = omega arith in ap (λ (j : ℕ). take j (ring held_size a h n)) k
    go (no p) =
        let x : length (ring held_size a h n) ≤ min m (min n held_size) = omega (arith, e) in
        let y : length (ring held_size a h n) ≤ m = omega (arith, e) in
        take_all (min m (min n held_size)) (ring held_size a h n) x ∙ sym (take_all m (ring held_size a h n) y)

count_is : (k : FrameKind) (n : ℕ) → held_count k n ≡ min (holds k) (min n held_size)
count_is Single n = omega arith
count_is (Batch b) n = refl
count_is (Chunked c) n = omega arith

-- a buffer is shorter than a length that stopped, where it is shorter than the length
stopped_test : (room x : ℕ) → room < 2 ^ 63 → ltb room (stopped x) ≡ ltb room x
stopped_test room x b = go (dec_lt room x)
  where
    go : Dec (room < x) → ltb room (stopped x) ≡ ltb room x
    go (yes p) = lt-ltb room (stopped x) (omega arith) ∙ sym (lt-ltb room x p)
    go (no p) = le-ltb room (stopped x) (omega arith) ∙ sym (le-ltb room x (omega arith))

stop_short : (x : ℕ) → x < 2 ^ 63 → x ≡ stopped x
stop_short x b = omega arith

-- an answer is one of the two
not_both : {P : Type 0} {o : Result Span ProducerError} (e : ProducerError) (g : Span) → o ≡ Err e → o ≡ Ok g → P
not_both e g a t = differ (cc)

same_err : (e f : ProducerError) → ◌≡◌ {A = Result Span ProducerError} (Err e) (Err f) → e ≡ f
same_err e f t = cc

-- what a plan tells of its test
record Planned (handle : ProducerHandle) (rings : Rings) (r : FrameRecord) (count : ℕ) (o : Result Span ProducerError) (p : TakePlan) : Type 0 where
  goes : o ≡ Ok p.span
  same : plan_of handle rings r count p.span ≡ p

ok_planned : (handle : ProducerHandle) (rings : Rings) (r : FrameRecord) (count : ℕ) (o : Result Span ProducerError) (p : TakePlan) → plan_with handle rings r count o ≡ Ok p → Planned handle rings r count o p
ok_planned handle rings r count (Ok x) p e =
    let same : plan_of handle rings r count x ≡ p = cc in
    let span : x ≡ p.span = ap (λ (q : TakePlan). q.span) same in
    record { goes = ap Ok span; same = subst (λ (y : Span). plan_of handle rings r count y ≡ p) span same }
ok_planned handle rings r count (Err x) p e = differ (cc)

err_planned : (handle : ProducerHandle) (rings : Rings) (r : FrameRecord) (count : ℕ) (o : Result Span ProducerError) (f : ProducerError) → plan_with handle rings r count o ≡ Err f → o ≡ Err f
err_planned handle rings r count (Ok x) f e = differ (cc)
err_planned handle rings r count (Err x) f e = let same : x ≡ f = cc in ap Err same

-- what a frame's name says
clip : (n : ProducerName) → name_of (clipped n) ≡ name_of n
clip n = let e : min (min n.len longest_name) longest_name ≡ min n.len longest_name = omega arith in ap (λ (k : ℕ). take k n.bytes) e

name_if : (store : List ℕ) (b : Bool) (own : Part) (producer : ProducerName)
    → name_told store (pick b (Producer (clipped producer)) (Own own)) ≡ pick b (name_of producer) (part_of store own)
name_if store true own producer = clip producer
name_if store false own producer = refl

num_if : (b : Bool) (n : ℕ) → (present_if b n) ≡ pick b (Some n) None
num_if true n = refl
num_if false n = refl

-- the payload's part is tested before what the message bears besides it
borne_is : (n : ℕ) (m : OutgoingMessage) (p : Part) → borne_in n m p ≡ (part_in n p && borne n m)
borne_is n m p = go (part_in n p)
  where
    go : (b : Bool)
        → (b && maybe_in n m.partition_key && maybe_in n m.ordering_key && maybe_in n m.schema_version && name_in n m.producer_name) ≡ (b && borne n m)
    go true = refl
    go false = refl

-- any message, where a law asks for one
some_message : SingleMessage
some_message =
    record {
      payload = record { start = 0; len = 0 };
      partition_key = None;
      ordering_key = None;
      event_time = None;
      null_value = None;
      null_partition_key = None;
    }

-- ── the front record ──

-- the record with its next frame, by its kind
abbrev record_after : FrameRecord → FrameKind → FrameRecord
record_after r Single = r
record_after r (Batch b) = r
record_after r (Chunked c) = pick (has_next c) (with_kind (Chunked (next_chunk c)) r) r

next_is : (r : FrameRecord) (k : FrameKind) → r.kind ≡ k → record r { kind = kind_after k } ≡ record_after r k
next_is r Single e = λ j. record r { kind = sym e j }
next_is r (Batch b) e = λ j. record r { kind = sym e j }
next_is r (Chunked c) e = go (has_next c)
  where
    go : (b : Bool) → record r { kind = pick b (Chunked (next_chunk c)) (Chunked c) } ≡ pick b (with_kind (Chunked (next_chunk c)) r) r
    go true = refl
    go false = λ j. record r { kind = sym e j }

-- which stands at the first slot
module _ (s : State) (f : Full s) (d : FrameRecord) (at : ℕ) (q : at ≡ slot outbound_size s.core.rings.outbound.head 0) where
  abbrev pub front_of : FrameRecord
  front_of = get_or s.outbound at d

  abbrev behind : List FrameRecord
  behind = ring outbound_size s.outbound (slot outbound_size s.core.rings.outbound.head 1) (min s.core.rings.outbound.len outbound_size - 1)

  none_waiting : s.core.rings.outbound.len ≡ 0 → (queue_of s).out.frames ≡ []
  unfolding queue_of
  none_waiting z = ap (ring outbound_size s.outbound s.core.rings.outbound.head) z ∙ ring_none outbound_size s.outbound s.core.rings.outbound.head

  some_waiting : 0 < s.core.rings.outbound.len → (queue_of s).out.frames ≡ front_of ∷ behind
  unfolding queue_of
  some_waiting b =
      ring_pop outbound_size (lit< tt) s.outbound f.outbound d s.core.rings.outbound.head s.core.rings.outbound.len (omega arith)
      ∙ ap (λ (k : ℕ). get_or s.outbound k d ∷ behind) (sym q)

  -- what a store in its slot leaves, with the head where it was and moved on
  module _ (b : 0 < s.core.rings.outbound.len) (x : FrameRecord) where
    stored : ring outbound_size (set s.outbound at x) s.core.rings.outbound.head s.core.rings.outbound.len ≡ x ∷ behind
    unfolding queue_of
    stored =
        let h = s.core.rings.outbound.head in
        let n = s.core.rings.outbound.len in
        ap (λ (k : ℕ). ring outbound_size (set s.outbound k x) h n) q
        ∙ ring_set outbound_size (lit< tt) s.outbound f.outbound h n 0 x (omega arith)
        ∙ ap (λ (l : List FrameRecord). set l 0 x) (some_waiting b)

    gone : ring outbound_size (set s.outbound at x) (without_front outbound_size 1 s.core.rings.outbound).head
        (without_front outbound_size 1 s.core.rings.outbound).len
        ≡ behind
    gone =
        let h = s.core.rings.outbound.head in
        let n = s.core.rings.outbound.len in
        let slots = set s.outbound at x in
        let one : min 1 (min n outbound_size) ≡ 1 = omega arith in
        ap (λ (k : ℕ). ring outbound_size slots (slot outbound_size h k) (min n outbound_size - k)) one
        ∙ ring_drop outbound_size (lit< tt) slots (simp length-set f.outbound) x h n 1 (omega arith)
        ∙ ap (drop 1) stored

  rest_is : 0 < s.core.rings.outbound.len → (r : FrameRecord) (k : FrameKind)
      → ring outbound_size (set s.outbound at (record_after r k))
      (pick (stays_of k) s.core.rings.outbound (without_front outbound_size 1 s.core.rings.outbound)).head
      (pick (stays_of k) s.core.rings.outbound (without_front outbound_size 1 s.core.rings.outbound)).len
      ≡ rest_of r k behind
  rest_is b r Single = gone b r
  rest_is b r (Batch y) = gone b r
  rest_is b r (Chunked c) = go (has_next c)
    where
      go : (t : Bool)
          → ring outbound_size (set s.outbound at (pick t (with_kind (Chunked (next_chunk c)) r) r))
          (pick t s.core.rings.outbound (without_front outbound_size 1 s.core.rings.outbound)).head
          (pick t s.core.rings.outbound (without_front outbound_size 1 s.core.rings.outbound)).len
          ≡ pick t (with_kind (Chunked (next_chunk c)) r ∷ behind) behind
      go true = stored b (with_kind (Chunked (next_chunk c)) r)
      go false = gone b r

  -- ── the held messages ──

  abbrev held_list : List SingleMessage
  held_list = ring held_size s.held s.core.rings.held.head s.core.rings.held.len

  abbrev pub first_of : FrameKind → List SingleMessage
  first_of k = ring held_size s.held s.core.rings.held.head (held_count k s.core.rings.held.len)

  first_is : (b : BatchFrame) → first_of (Batch b) ≡ take b.num_messages held_list
  first_is b = ring_takes s.held f.held s.core.rings.held.head s.core.rings.held.len b.num_messages

  dropped_is : SingleMessage → (k : FrameKind)
      → ring held_size s.held (without_front held_size (held_count k s.core.rings.held.len) s.core.rings.held).head
      (without_front held_size (held_count k s.core.rings.held.len) s.core.rings.held).len
      ≡ drop (holds k) held_list
  dropped_is m k =
      let h = s.core.rings.held.head in
      let n = s.core.rings.held.len in
      let gone : min (held_count k n) (min n held_size) ≡ min (holds k) (min n held_size) = omega (arith, count_is k n) in
      ap (λ (j : ℕ). ring held_size s.held (slot held_size h j) (min n held_size - j)) gone ∙ ring_drops held_size (lit< tt) s.held f.held m h n (holds k)

  -- the state once the frame is gone
  abbrev pub state_after : FrameRecord → State
  state_after r =
      record s {
        core = core_rings (rings_taken (stays_of r.kind) (held_count r.kind s.core.rings.held.len) s.core.rings) s.core;
        outbound = set s.outbound at (record_after r r.kind);
      }

  after_is : SingleMessage → 0 < s.core.rings.outbound.len → (r : FrameRecord)
      → queue_of (state_after r) ≡ with_out (after_take r behind (queue_of s).out) (queue_of s)
  unfolding queue_of
  after_is m b r =
      λ j.
      with_out
      (record { frames = rest_is b r r.kind j; waiting = s.core.rings.waiting - 1; held = dropped_is m r.kind j; batch = s.core.batch })
      (queue_of s)

  -- ── the frame ──

  module _ (store : List ℕ) (r : FrameRecord) where
    abbrev pub span_for : FrameKind → Option Span
    span_for k = span_of (length store) r k (first_of k)

    abbrev frame_for : FrameKind → Frame
    frame_for k = first_frame store s.core.handle r k held_list

    inside_is : (k : FrameKind) → frame_in (length store) r k held_list ≡ is_there (span_for k)
    inside_is Single =
        let p = r.message.payload in
        borne_is (length store) r.message p
        ∙ ap (λ (j : ℕ). leb (j + p.len) (length store) && borne (length store) r.message) (sym (add-zero p.start))
        ∙ there_if _ _
    inside_is (Batch b) = ap (all_in (length store)) (sym (first_is b)) ∙ there_if _ _
    inside_is (Chunked c) = borne_is (length store) r.message (chunk_part r c) ∙ there_if _ _

    -- what is written, how much it is, and that it can be read from the store
    record Written (k : FrameKind) (g : Span) : Type 0 where
      bytes : payload_of store k g (first_of k) ≡ (frame_for k).payload
      size : stopped (length (frame_for k).payload) ≡ g.len
      own : is_batch k ≡ false → g.start + g.len ≤ length store
      held : is_batch k ≡ true → all_in (length store) (first_of k) ≡ true

    module _ (small : length store < 2 ^ 63) where
      piece_start : (skip len : ℕ) → r.message.payload.start + skip + len ≤ length store → add_sat r.message.payload.start skip ≡ r.message.payload.start + skip
      piece_start skip len e = omega arith

      piece_size : (start len : ℕ) → start + len ≤ length store → stopped (length (take len (drop start store))) ≡ len
      piece_size start len e =
          let l : length (take len (drop start store)) ≡ len = length-take-le len (drop start store) (rw length-drop (omega arith)) in
          ap stopped l ∙ omega arith

      written_is : (k : FrameKind) (g : Span) → span_for k ≡ Some g → Written k g
      written_is Single g e =
          let p = r.message.payload in
          let h = piece_of (length store) r.message 0 p.len g e in
          let b = h.within in
          let z : p.start + 0 ≡ p.start = add-zero p.start in
          let q : add_sat p.start 0 ≡ p.start = piece_start 0 p.len b ∙ z in
          subst (Written Single) h.same (record {
            bytes = ap (λ (j : ℕ). take p.len (drop j store)) q;
            size = piece_size p.start p.len (omega arith);
            own = λ t. omega arith;
            held = λ t. false_true t;
          })
      written_is (Batch b) g e =
          let h = some_picked (all_in (length store) (first_of (Batch b))) (record { start = 0; len = stopped (batch_length (first_of (Batch b))) }) g e in
          subst (Written (Batch b)) h.1 (record {
            bytes = ap (batch_payload store) (first_is b);
            size =
                ap (λ (l : List SingleMessage). stopped (length (batch_payload store l))) (sym (first_is b))
                ∙ ap stopped (batch_length_lem store (first_of (Batch b)) (all_in_lem (length store) (first_of (Batch b)) h.0));
            own = λ t. false_true (sym t);
            held = λ t. h.0;
          })
      written_is (Chunked c) g e =
          let p = r.message.payload in
          let at = c.next_chunk * c.max_chunk_size in
          let len = min c.max_chunk_size (p.len - at) in
          let h = piece_of (length store) r.message at len g e in
          let b = h.within in
          let q = piece_start at len b in
          subst (Written (Chunked c)) h.same (record {
            bytes = ap (λ (j : ℕ). take len (drop j store)) q;
            size = piece_size (p.start + at) len b;
            own = λ t. subst (λ (j : ℕ). j + len ≤ length store) (sym q) b;
            held = λ t. false_true t;
          })

    frame_is : (after : List ℕ) (len : ℕ) (k : FrameKind) → take len after ≡ (frame_for k).payload → frame_told store after (frame_out s.core.handle r k len) ≡ frame_for k
    frame_is after len Single e = simp (name_if, num_if, e)
    frame_is after len (Batch b) e = simp (clip, num_if, e)
    frame_is after len (Chunked c) e = simp (name_if, e)

  -- ── the answer ──

  abbrev pub Takes : List ℕ → List ℕ → List ℕ → Result OutboundFrame ProducerError → State → Type 0
  Takes store before after a t =
      (◌≡◌ {A = Queue × Answer Frame} (queue_of t, told_frame store after a) (next_outbound_frame store (length before) (queue_of s)))
      × ((after ≡ written (told_frame store after a) before)
      × (OwnParts store (queue_of s) (queue_of s).out.frames a × Kept (told_frame store after a) s t))

  -- the length that is answered is the planned one
  counted : (store before after : List ℕ) (f : OutboundFrame) (n : ℕ) (t : State)
      → n ≡ f.payload_len → Takes store before after (Ok f) t → Takes store before after (Ok (record f { payload_len = n })) t
  counted store before after f n t e = subst (λ (m : ℕ). Takes store before after (Ok (record f { payload_len = m })) t) (sym e)

  -- the state with the plan's stores
  abbrev pub stored_as : TakePlan → State
  stored_as p = record s { core = core_rings p.rings s.core; outbound = set s.outbound at (record front_of { kind = p.kind }) }

  module _ (store before : List ℕ) (small : length store < 2 ^ 63) (short : length before < 2 ^ 63) where
    abbrev kind : FrameKind
    kind = front_of.kind

    abbrev span : Option Span
    span = span_for store front_of kind

    abbrev answer : Result Span ProducerError
    answer = answer_of s.core.rings.outbound.len span (length before)

    nothing : s.core.rings.outbound.len ≡ 0 → next_outbound_frame store (length before) (queue_of s) ≡ refuse 10 (queue_of s)
    unfolding next_outbound_frame
    nothing z = ap (take_from store (length before) (queue_of s)) (none_waiting z)

    module _ (p : 0 < s.core.rings.outbound.len) where
      opened : next_outbound_frame store (length before) (queue_of s)
          ≡ pick (frame_in (length store) front_of kind held_list)
          (pick (ltb (length before) (length (frame_for store front_of kind).payload)) (refuse 9 (queue_of s))
          (with_out (after_take front_of behind (queue_of s).out) (queue_of s), done (frame_for store front_of kind)))
          (refuse 2 (queue_of s))
      unfolding next_outbound_frame queue_of
      opened = ap (take_from store (length before) (queue_of s)) (some_waiting p)

      outside : span ≡ None → next_outbound_frame store (length before) (queue_of s) ≡ refuse 2 (queue_of s)
      outside i = opened ∙ pick_false _ _ (inside_is store front_of kind ∙ ap is_there i)

      module _ (g : Span) (i : span ≡ Some g) where
        within : frame_in (length store) front_of kind held_list ≡ true
        within = inside_is store front_of kind ∙ ap is_there i

        test : ltb (length before) (length (frame_for store front_of kind).payload) ≡ ltb (length before) g.len
        test =
            sym (stopped_test (length before) (length (frame_for store front_of kind).payload) short)
            ∙ ap (ltb (length before)) (written_is store front_of small kind g i).size

        too_short : ltb (length before) g.len ≡ true → next_outbound_frame store (length before) (queue_of s) ≡ refuse 9 (queue_of s)
        too_short t = opened ∙ pick_true _ _ within ∙ pick_true _ _ (test ∙ t)

        goes : ltb (length before) g.len ≡ false
            → next_outbound_frame store (length before) (queue_of s) ≡ (with_out (after_take front_of behind (queue_of s).out) (queue_of s), done (frame_for store front_of kind))
        goes t = opened ∙ pick_true _ _ within ∙ pick_false _ _ (test ∙ t)

    -- the struct that is answered
    own_is : 0 < s.core.rings.outbound.len → (len : ℕ) → length (frame_for store front_of kind).payload ≡ len
        → frame_in (length store) front_of kind held_list ≡ true
        → OwnParts store (queue_of s) (queue_of s).out.frames (Ok (frame_out s.core.handle front_of kind len))
    unfolding queue_of
    own_is p len size within =
        subst (λ (rs : List FrameRecord). OwnParts store (queue_of s) rs (Ok (frame_out s.core.handle front_of kind len)))
        (sym (some_waiting p))
        (ap (frame_out s.core.handle front_of kind) (sym size), within)

    -- what stands in the way of a frame, or that nothing does
    answer_none : s.core.rings.outbound.len ≡ 0 → answer ≡ Err NoFrame
    answer_none z = pick_true _ _ (eq-eqb s.core.rings.outbound.len 0 z)

    answer_some : 0 < s.core.rings.outbound.len → (o : Option Span) → span ≡ o → answer ≡ fitting o (length before)
    answer_some p o e = pick_false _ _ (ne_eqb s.core.rings.outbound.len 0 (λ z. omega arith)) ∙ ap (λ (x : Option Span). fitting x (length before)) e

    -- what a plan that goes through tells
    record Accepted (g : Span) : Type 0 where
      some : 0 < s.core.rings.outbound.len
      inside : span ≡ Some g
      fits : ltb (length before) g.len ≡ false

    accepted : (g : Span) → answer ≡ Ok g → Accepted g
    accepted g t = by (dec_lt 0 s.core.rings.outbound.len) span refl
      where
        fit : 0 < s.core.rings.outbound.len → (x : Span) → span ≡ Some x → (l : Bool) → ltb (length before) x.len ≡ l → Accepted g
        fit p x e true h = not_both TooShort g (answer_some p (Some x) e ∙ pick_true _ _ h) t
        fit p x e false h =
            let out : answer ≡ Ok x = answer_some p (Some x) e ∙ pick_false _ _ h in
            let found : ◌≡◌ {A = Result Span ProducerError} (Ok x) (Ok g) = sym out ∙ t in
            let same : x ≡ g = cc in
            subst Accepted same (record { some = p; inside = e; fits = h })

        by : Dec (0 < s.core.rings.outbound.len) → (o : Option Span) → span ≡ o → Accepted g
        by (no p) o e = not_both NoFrame g (answer_none (omega arith)) t
        by (yes p) None e = not_both PartOutside g (answer_some p None e) t
        by (yes p) (Some x) e = fit p x e (ltb (length before) x.len) refl

    refused_is : (err : ProducerError) → answer ≡ Err err → Takes store before before (Err err) s
    refused_is err t = by (dec_lt 0 s.core.rings.outbound.len) span refl
      where
        on : (f : ProducerError) → answer ≡ Err f → Takes store before before (Err f) s → Takes store before before (Err err) s
        on f a = subst (λ (g : ProducerError). Takes store before before (Err g) s) (same_err f err (sym a ∙ t))

        fit : 0 < s.core.rings.outbound.len → (x : Span) → span ≡ Some x → (l : Bool) → ltb (length before) x.len ≡ l
            → Takes store before before (Err err) s
        fit p x e true h = on TooShort (answer_some p (Some x) e ∙ pick_true _ _ h) (sym (too_short p x e h), (refl, (tt, refl)))
        fit p x e false h = not_both err x t (answer_some p (Some x) e ∙ pick_false _ _ h)

        by : Dec (0 < s.core.rings.outbound.len) → (o : Option Span) → span ≡ o → Takes store before before (Err err) s
        by (no p) o e = let z : s.core.rings.outbound.len ≡ 0 = omega arith in on NoFrame (answer_none z) (sym (nothing z), (refl, (tt, refl)))
        by (yes p) None e = on PartOutside (answer_some p None e) (sym (outside p e), (refl, (tt, refl)))
        by (yes p) (Some x) e = fit p x e (ltb (length before) x.len) refl

    module _ (g : Span) (t : answer ≡ Ok g) where
      -- the payload can be written
      writable_is : Writable store kind g (first_of kind) before
      writable_is =
          let a = accepted g t in
          let w = written_is store front_of small kind g a.inside in
          let size = w.size in
          let le : length (frame_for store front_of kind).payload ≤ length before =
          ltb-false (length before) (length (frame_for store front_of kind).payload) (test a.some g a.inside ∙ a.fits) in
          record {
            held = w.held;
            own = w.own;
            room = subst (λ (bytes : List ℕ). Room bytes before) (sym w.bytes) (record { fits = omega arith });
          }

      done_is : (after : List ℕ) (x : ℕ) → Puts (payload_of store kind g (first_of kind)) before after x
          → Takes store before after (Ok (frame_out s.core.handle front_of kind g.len)) (state_after front_of)
      done_is after x v =
          let a = accepted g t in
          let w = written_is store front_of small kind g a.inside in
          let bytes : List ℕ = (frame_for store front_of kind).payload in
          let le : length bytes ≤ length before = ltb-false (length before) (length bytes) (test a.some g a.inside ∙ a.fits) in
          let size : length bytes ≡ g.len = stop_short (length bytes) (omega arith) ∙ w.size in
          let left : after ≡ bytes ++ drop (length bytes) before =
          (subst (λ (l : List ℕ). Puts l before after x) w.bytes v).left in
          let start : take g.len after ≡ bytes = ap (take g.len) left ∙ take_at bytes (drop (length bytes) before) g.len size in
          let frame = frame_is store front_of after g.len kind start in
          let own = own_is a.some g.len size (within a.some g a.inside) in (
            (λ j. (after_is some_message a.some front_of j, done (frame j))) ∙ sym (goes a.some g a.inside a.fits),
            (left ∙ ap (λ (h : Frame). h.payload ++ drop (length h.payload) before) (sym frame), (own, tt)),
          )

    -- ── from what the code has worked out ──

    abbrev held_first : ℕ → List SingleMessage
    held_first count = ring held_size s.held s.core.rings.held.head count

    module _ (front : FrameRecord) (rings : Rings) (fe : front ≡ front_of) (re : rings ≡ s.core.rings)
        (got : Option Span) (count : ℕ) (ce : count ≡ held_count front.kind rings.held.len)
        (se : got ≡ span_of (length store) front front.kind (ring held_size s.held rings.held.head count))
        (plan : Result TakePlan ProducerError) (pe : plan ≡ take_planned s.core.handle rings front got count (length before)) where
      counted_is : count ≡ held_count kind s.core.rings.held.len
      counted_is = ce ∙ (λ j. held_count (fe j).kind (re j).held.len)

      planned_is : plan ≡ plan_with s.core.handle s.core.rings front_of (held_count kind s.core.rings.held.len) answer
      planned_is =
          pe
          ∙ (λ j. take_planned s.core.handle (re j) (fe j) got count (length before))
          ∙ ap (λ (o : Option Span). take_planned s.core.handle s.core.rings front_of o count (length before))
          (se ∙ (λ j. span_of (length store) (fe j) (fe j).kind (ring held_size s.held (re j).held.head count)))
          ∙ ap (λ (c : ℕ). take_planned s.core.handle s.core.rings front_of (span_of (length store) front_of kind (held_first c)) c (length before)) counted_is

      pub takes_refused : (e : ProducerError) → plan ≡ Err e → Takes store before before (Err e) s
      takes_refused e t = refused_is e (err_planned s.core.handle s.core.rings front_of (held_count kind s.core.rings.held.len) answer e (sym planned_is ∙ t))

      module _ (p : TakePlan) (t : plan ≡ Ok p) where
        planned : Planned s.core.handle s.core.rings front_of (held_count kind s.core.rings.held.len) answer p
        planned = ok_planned s.core.handle s.core.rings front_of (held_count kind s.core.rings.held.len) answer p (sym planned_is ∙ t)

        -- the state with this record in the front slot
        abbrev at_front : FrameRecord → State
        at_front r =
            record s {
              core = core_rings (rings_taken (stays_of kind) (held_count kind s.core.rings.held.len) s.core.rings) s.core;
              outbound = set s.outbound at r;
            }

        -- of the record and rings that the code has read
        abbrev of_read : (FrameKind → List SingleMessage → Type 0) → FrameRecord × Rings → Type 0
        of_read f x = f x.0.kind (ring held_size s.held x.1.held.head count)

        pub takes_done : (after : List ℕ) (x n : ℕ) → n ≡ p.frame.payload_len
            → Puts (payload_of store front.kind p.span (ring held_size s.held rings.held.head count)) before after x
            → (u : State) → u ≡ stored_as p
            → Takes store before after (Ok (record p.frame { payload_len = n })) u
        takes_done after x n e v u left =
            let puts : FrameKind → List SingleMessage → Type 0 = λ k ms. Puts (payload_of store k p.span ms) before after x in
            let w = subst (of_read puts) (λ j. (fe j, re j)) v in
            subst (Takes store before after (Ok (record p.frame { payload_len = n }))) (sym left)
            (counted store before after p.frame n (stored_as p) e
            (subst (λ (q : TakePlan). Takes store before after (Ok q.frame) (stored_as q)) planned.same
            (subst (λ (r : FrameRecord). Takes store before after (Ok (frame_out s.core.handle front_of kind p.span.len)) (at_front r)) (sym (next_is front_of kind refl))
            (done_is p.span planned.goes after x (subst (λ (c : ℕ). Puts (payload_of store kind p.span (held_first c)) before after x) counted_is w)))))

        pub takes_writable : Writable store front.kind p.span (ring held_size s.held rings.held.head count) before
        takes_writable =
            let room : FrameKind → List SingleMessage → Type 0 = λ k ms. Writable store k p.span ms before in
            subst (of_read room) (λ j. (sym fe j, sym re j))
            (subst (λ (c : ℕ). Writable store kind p.span (held_first c) before) (sym counted_is) (writable_is p.span planned.goes))

-- what is stored of rows: the kind of the front one, and the rings
pub taken_rows : (r : ProducerState) (at : ℕ) (d : FrameRow) (kind : KindRow) (rings : RingsRow) (k : FrameKind) (n : Rings)
    → decode_kind kind ≡ k → decode_rings rings ≡ n
    → state_of (record r { core = record r.core { rings = rings }; outbound = set r.outbound at (record (get_or r.outbound at d) { kind = kind }) })
    ≡ record (state_of r) {
      core = core_rings n (state_of r).core;
      outbound = set (state_of r).outbound at (record (get_or (state_of r).outbound at (decode_frame d)) { kind = k });
    }
taken_rows r at d kind rings k n ke ne =
    let row =
    stored_row decode_frame r.outbound at (record (get_or r.outbound at d) { kind = kind })
    (record (get_or (map decode_frame r.outbound) at (decode_frame d)) { kind = k })
    (λ j. record (sym (get_or-map decode_frame r.outbound at d) j) { kind = ke j }) in
    λ j. record (state_of r) { core = core_rings (ne j) (state_of r).core; outbound = row j }
