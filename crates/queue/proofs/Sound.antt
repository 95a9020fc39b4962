-- What goes out stays sound under each push and each take: the count of waiting frames leaves room in the list of records, and the messages
-- held are those of the waiting batch frames and of the open batch.
use Prim.Native.Nat.{ℕ, ◌+◌, ◌-◌, ◌*◌, ◌^◌, ◌≤◌, ◌<◌}
use mathlib.Core.Path.{◌≡◌, refl}
use mathlib.Core.List.{List, [], ◌∷◌, ◌++◌}
use native.Mathlib.Omega.{arith}
use lib.ListN.{length, drop, length-append, length-drop, drop_of_length-le}
use lib.Seq.{drop-append-le, drop-drop}
use lib.Dec.{ltb}
use borrow.Author.Tests.{lt-ltb, ltb-true, ltb-false}
use Rattle.laws.specs.Numbers.{add_sat}
use Rattle.wire.specs.Batch.{WithinBounds}
use Rattle.wire.specs.Length.{item_length, batch_length}
use Rattle.wire.proofs.ItemLaws.{item_short}
use Rattle.types.specs.Empty.{empty_batch}
use Rattle.types.specs.declared.batch.BatchContainer.{BatchContainer}
use Rattle.types.specs.declared.frame.FrameKind.{FrameKind}
use Rattle.types.specs.declared.frame.FrameKind.TheVariants.{Single, Batch, Chunked}
use Rattle.types.specs.declared.frame.FrameRecord.{FrameRecord}
use Rattle.types.specs.declared.message.OutgoingMessage.{OutgoingMessage}
use Rattle.types.specs.declared.message.SingleMessage.{SingleMessage}
use Rattle.types.specs.declared.settings.ProducerSettings.{ProducerSettings}
use Rattle.queue.specs.Queue.{Outgoing, empty_outgoing}
use Rattle.queue.specs.Batch.{single_of, grown, push, with_batch, batch_record}
use Rattle.queue.specs.Sizes.{outbound_size, held_size}
use Rattle.queue.specs.Take.{with_kind, next_chunk, rest_of, holds, after_take}
use Rattle.queue.specs.Reachable.{left, left_all, open_of, payload_sum}
use Rattle.laws.proofs.Choice.{pick_ind}

abbrev pub EachWaits : List FrameRecord → Type 0
EachWaits [] = Unit {0}
EachWaits (r ∷ rs) = (1 ≤ left r.kind) × EachWaits rs

-- the messages that the waiting batch frames hold
abbrev pub held_by : List FrameRecord → ℕ
held_by [] = 0
held_by (r ∷ rs) = holds r.kind + held_by rs

pub record Sound (o : Outgoing) : Type 0 where
  pub counted : o.waiting ≡ left_all o.frames
  pub each : EachWaits o.frames
  pub waiting : o.waiting ≤ outbound_size
  pub shared : length o.held ≡ held_by o.frames + o.batch.len
  pub held : length o.held ≤ held_size
  pub size : o.batch.current_size_bytes ≡ payload_sum (open_of o)
  pub encoded : o.batch.encoded_len ≡ batch_length (open_of o)
  -- so that no sum of the batch stops at 2^64 - 1
  pub size_low : o.batch.current_size_bytes ≤ o.batch.len * 2 ^ 25
  pub encoded_low : o.batch.encoded_len ≤ o.batch.len * 2 ^ 25

pub empty_sound : Sound empty_outgoing
unfolding batch_length
empty_sound =
    record {
      counted = refl;
      each = tt;
      waiting = omega arith;
      shared = refl;
      held = omega arith;
      size = refl;
      encoded = refl;
      size_low = omega arith;
      encoded_low = omega arith;
    }

-- ── records in a row ──

pub left_append : (a b : List FrameRecord) → left_all (a ++ b) ≡ left_all a + left_all b
left_append [] b = omega arith
left_append (r ∷ a) b = omega (arith, left_append a b)

pub held_append : (a b : List FrameRecord) → held_by (a ++ b) ≡ held_by a + held_by b
held_append [] b = omega arith
held_append (r ∷ a) b = omega (arith, held_append a b)

pub waits_append : (a b : List FrameRecord) → EachWaits a → EachWaits b → EachWaits (a ++ b)
waits_append [] b x y = y
waits_append (r ∷ a) b x y = (x.0, waits_append a b x.1 y)

-- the records are no more than the frames
pub waits_length : (rs : List FrameRecord) → EachWaits rs → length rs ≤ left_all rs
waits_length [] h = omega arith
waits_length (r ∷ rs) h = omega (arith, h.0, waits_length rs h.1)

pub records_fit : (o : Outgoing) → Sound o → length o.frames ≤ o.waiting
records_fit o k = omega (arith, waits_length o.frames k.each, k.counted)

-- ── a push finds room: it appends ──

abbrev pub appended : FrameRecord → ℕ → Outgoing → Outgoing
appended r n o = record { frames = o.frames ++ r ∷ []; waiting = o.waiting + n; held = o.held; batch = o.batch }

pub push_room : (o : Outgoing) (r : FrameRecord) (n : ℕ) → Sound o → 1 ≤ n → o.waiting + n ≤ outbound_size → push r n o ≡ appended r n o
push_room o r n k some room =
    let fits : length o.frames < outbound_size = omega (arith, records_fit o k) in
    let sum : add_sat o.waiting n ≡ o.waiting + n = omega arith in
    rw (lt-ltb (length o.frames) outbound_size fits, sum)

-- a record that holds no message
pub append_sound : (o : Outgoing) (r : FrameRecord) (n : ℕ) → Sound o → left r.kind ≡ n → holds r.kind ≡ 0 → 1 ≤ n → o.waiting + n ≤ outbound_size
    → Sound (appended r n o)
append_sound o r n k e none some room =
    record {
      counted = rw left_append (omega (arith, k.counted));
      each = waits_append o.frames (r ∷ []) k.each (omega arith, tt);
      waiting = room;
      shared = rw held_append (omega (arith, k.shared));
      held = k.held;
      size = k.size;
      encoded = k.encoded;
      size_low = k.size_low;
      encoded_low = k.encoded_low;
    }

-- the open batch becomes a frame
pub flush_sound : (o : Outgoing) (t : ProducerSettings) (time : ℕ) → Sound o → o.waiting + 1 ≤ outbound_size
    → Sound (with_batch empty_batch (appended (batch_record t time o.batch) 1 o))
unfolding batch_length
flush_sound o t time k room =
    let none : drop (length o.held - 0) o.held ≡ [] = drop_of_length-le o.held {i = length o.held - 0} (omega arith) in
    record {
      counted = rw left_append (omega (arith, k.counted));
      each = waits_append o.frames (batch_record t time o.batch ∷ []) k.each (omega arith, tt);
      waiting = room;
      shared = rw held_append (omega (arith, k.shared));
      held = k.held;
      size = rw none;
      encoded = rw none;
      size_low = omega arith;
      encoded_low = omega arith;
    }

-- ── a message joins ──

abbrev pub joined_to : SingleMessage → BatchContainer → Outgoing → Outgoing
joined_to m b o = record { frames = o.frames; waiting = o.waiting; held = o.held ++ m ∷ []; batch = b }

sum_snoc : (ms : List SingleMessage) (m : SingleMessage) → payload_sum (ms ++ m ∷ []) ≡ payload_sum ms + m.payload.len
sum_snoc [] m = omega arith
sum_snoc (x ∷ ms) m = omega (arith, sum_snoc ms m)

length_snoc : (ms : List SingleMessage) (m : SingleMessage) → batch_length (ms ++ m ∷ []) ≡ batch_length ms + item_length m
unfolding batch_length
length_snoc [] m = omega arith
length_snoc (x ∷ ms) m = omega (arith, length_snoc ms m)

pub join_sound : (o : Outgoing) (m : OutgoingMessage) (id now : ℕ) → Sound o → length o.held < held_size → WithinBounds (single_of m)
    → Sound (joined_to (single_of m) (grown m id now o.batch) o)
join_sound o m id now k room s =
    let b = o.batch in
    let x = single_of m in
    let few : b.len ≤ held_size = omega (arith, k.shared) in
    let short = item_short x s in
    let one : add_sat b.len 1 ≡ b.len + 1 = omega arith in
    let size : add_sat b.current_size_bytes m.payload.len ≡ b.current_size_bytes + m.payload.len = omega (arith, k.size_low, s.payload) in
    let encoded : add_sat b.encoded_len (item_length x) ≡ b.encoded_len + item_length x = omega (arith, k.encoded_low) in
    let at : length (o.held ++ x ∷ []) - add_sat b.len 1 ≡ length o.held - b.len = rw length-append (omega arith) in
    let opened : drop (length (o.held ++ x ∷ []) - add_sat b.len 1) (o.held ++ x ∷ []) ≡ open_of o ++ x ∷ [] =
    rw at (drop-append-le (length o.held - b.len) o.held (x ∷ []) (omega arith)) in
    record {
      counted = k.counted;
      each = k.each;
      waiting = k.waiting;
      shared = rw length-append (omega (arith, k.shared));
      held = rw length-append (omega arith);
      size = rw (opened, sum_snoc (open_of o) x) (omega (arith, k.size));
      encoded = rw (opened, length_snoc (open_of o) x) (omega (arith, k.encoded));
      size_low = omega (arith, k.size_low, s.payload);
      encoded_low = omega (arith, k.encoded_low);
    }

-- ── a take ──

record Rest (x : FrameKind) (rs fs : List FrameRecord) : Type 0 where
  counted : left_all fs + 1 ≡ left x + left_all rs
  each : EachWaits fs
  held : held_by fs ≡ held_by rs

rest_of_lem : (r : FrameRecord) (x : FrameKind) (rs : List FrameRecord) → 1 ≤ left x → EachWaits rs → Rest x rs (rest_of r x rs)
rest_of_lem r Single rs h w = record { counted = omega arith; each = w; held = refl }
rest_of_lem r (Batch b) rs h w = record { counted = omega arith; each = w; held = refl }
rest_of_lem r (Chunked c) rs h w =
    let k = c.next_chunk in
    let n = c.total_chunks in
    pick_ind (λ fs. Rest (Chunked c) rs fs) (ltb (k + 1) n) (with_kind (Chunked (next_chunk c)) r ∷ rs) rs
    (λ e. let l : k + 1 < n = ltb-true (k + 1) n e in record { counted = omega arith; each = (omega arith, w); held = omega arith })
    (λ e. let l : n ≤ k + 1 = ltb-false (k + 1) n e in record { counted = omega arith; each = w; held = refl })

pub take_sound : (o : Outgoing) (r : FrameRecord) (rs : List FrameRecord) → Sound o → o.frames ≡ r ∷ rs → Sound (after_take r rs o)
take_sound o r rs k e =
    let each : EachWaits (r ∷ rs) = rw e at k.each in
    let counted : o.waiting ≡ left r.kind + left_all rs = rw e at k.counted in
    let shared : length o.held ≡ holds r.kind + held_by rs + o.batch.len = rw e at k.shared in
    let x = rest_of_lem r r.kind rs each.0 each.1 in
    let n = holds r.kind in
    let at : n + (length (drop n o.held) - o.batch.len) ≡ length o.held - o.batch.len = rw length-drop (omega arith) in
    let opened : drop (length (drop n o.held) - o.batch.len) (drop n o.held) ≡ open_of o = rw (drop-drop, at) in
    record {
      counted = omega (arith, x.counted);
      each = x.each;
      waiting = omega (arith, k.waiting);
      shared = rw length-drop (omega (arith, x.held));
      held = rw length-drop (omega (arith, k.held));
      size = rw opened k.size;
      encoded = rw opened k.encoded;
      size_low = k.size_low;
      encoded_low = k.encoded_low;
    }
