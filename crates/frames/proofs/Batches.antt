-- The loops over the messages of a batch frame, which are the first of the held ring: their parts and lengths, and their items. Assumes nothing.
use Prim.Native.Nat.{ℕ, ◌+◌, ◌<◌, ◌≤◌, ◌^◌, min}
use mathlib.Core.Bool.{Bool, true, false, ◌&&◌}
use mathlib.Core.List.{List, [], ◌∷◌, ◌++◌, map}
use mathlib.Core.Path.{◌≡◌, ap, sym, subst, ◌∙◌}
use native.Mathlib.Omega.{arith}
use native.Mathlib.Numerals.{add-one}
use lib.Dec.{lit<}
use lib.ListN.{length, drop, get_or, drop_of_length-le, get_or-eq_default, length-map}
use Rattle.std.proofs.lemmas.List as lists
use native.Mathlib.Decide.{dec_lt}
use lib.Seq.{drop-cons}
use Rattle.std.specs.Prelude.{Some, None}
use Rattle.laws.specs.Choice.{pick}
use Rattle.laws.specs.Numbers.{add_sat}
use Rattle.laws.specs.Ring.{ring, slot}
use Rattle.laws.proofs.Rings.{length_ring, ring_at}
use Rattle.laws.proofs.Slots.{slot_below}
use Rattle.rows.specs.Message.{decode_single}
use Rattle.rows.specs.declared.message.SingleRow.{SingleRow}
use Rattle.types.specs.Values.{part_in, maybe_in}
use Rattle.types.specs.declared.message.SingleMessage.{SingleMessage}
use Rattle.wire.specs.Batch.{item, item_of, batch_payload, All, InStore}
use Rattle.wire.specs.Length.{stopped, item_length, batch_length}
use Rattle.wire.proofs.ItemLaws.{batch_step, all_at}
use Rattle.queue.specs.Frame.{single_in, all_in}
use Rattle.queue.specs.Sizes.{held_size}
use Rattle.laws.proofs.Choice.{and_left, and_right}
use Rattle.frames.specs.Span.{with_item, batch_span}
use Rattle.frames.specs.declared.span.Span.{Span}
use Rattle.frames.proofs.Pieces.{some_picked, none_picked}

sat_two : (a b c : ℕ) → add_sat (add_sat a (stopped b)) (stopped c) ≡ add_sat a (stopped (b + c))
sat_two a b c = omega arith

-- the span of the messages up to i, all of which lie in the store
pub record Spans (n : ℕ) (ms : List SingleMessage) (s : Span) (i : ℕ) : Type 0 where
  pub origin : s.start ≡ 0
  pub small : s.len < 2 ^ 64
  pub all : all_in n (drop i ms) ≡ all_in n ms
  pub sum : add_sat s.len (stopped (batch_length (drop i ms))) ≡ stopped (batch_length ms)

module _ (n : ℕ) (ms : List SingleMessage) (s : Span) (i : ℕ) (d : SingleMessage) (b : i < length ms) (h : Spans n ms s i) where
  next : drop i ms ≡ get_or ms i d ∷ drop (i + 1) ms
  next = rw (add-one) (drop-cons ms i d b)

  grown : Span
  grown = record { start = s.start; len = add_sat s.len (stopped (item_length (get_or ms i d))) }

  step : single_in n (get_or ms i d) ≡ true → Spans n ms grown (i + 1)
  unfolding batch_length grown
  step e =
      let m = get_or ms i d in
      let rest = drop (i + 1) ms in
      let t : add_sat s.len (stopped (item_length m + batch_length rest)) ≡ stopped (batch_length ms) =
      subst (λ (l : List SingleMessage). add_sat s.len (stopped (batch_length l)) ≡ stopped (batch_length ms)) next h.sum in
      record {
        origin = h.origin;
        small = omega arith;
        all = sym (ap (λ (x : Bool). x && all_in n rest) e) ∙ subst (λ (l : List SingleMessage). all_in n l ≡ all_in n ms) next h.all;
        sum = sat_two s.len (item_length m) (batch_length rest) ∙ t;
      }

  pub spans_step : (t : Span) → with_item n s (get_or ms i d) ≡ Some t → Spans n ms t (i + 1)
  unfolding grown
  spans_step t e =
      let h = some_picked (single_in n (get_or ms i d)) grown t e in
      subst (λ (x : Span). Spans n ms x (i + 1)) h.1 (step h.0)

  pub spans_stop : with_item n s (get_or ms i d) ≡ None → None ≡ batch_span n ms
  unfolding grown
  spans_stop e =
      let q = none_picked (single_in n (get_or ms i d)) grown e in
      let out : false ≡ all_in n ms =
      sym (ap (λ (x : Bool). x && all_in n (drop (i + 1) ms)) q) ∙ subst (λ (l : List SingleMessage). all_in n l ≡ all_in n ms) next h.all in
      ap (λ (x : Bool). pick x (Some (record { start = 0; len = stopped (batch_length ms) })) None) out

pub spans_all : (n : ℕ) (ms : List SingleMessage) (s : Span) (i : ℕ) → length ms ≤ i → Spans n ms s i → Some s ≡ batch_span n ms
unfolding batch_length
spans_all n ms s i b h =
    let none = drop_of_length-le ms b in
    let inside : true ≡ all_in n ms = subst (λ (l : List SingleMessage). all_in n l ≡ all_in n ms) none h.all in
    let t : add_sat s.len (stopped 0) ≡ stopped (batch_length ms) =
    subst (λ (l : List SingleMessage). add_sat s.len (stopped (batch_length l)) ≡ stopped (batch_length ms)) none h.sum in
    let small = h.small in
    let len : s.len ≡ stopped (batch_length ms) = omega arith in
    λ j. pick (inside j) (Some (record { start = h.origin j; len = len j })) None

pub single_in_lem : (n : ℕ) (m : SingleMessage) → single_in n m ≡ true → InStore n m
single_in_lem n m e =
    let keys = and_left (part_in n m.payload && maybe_in n m.partition_key) (maybe_in n m.ordering_key) e in
    record {
      payload = and_left (part_in n m.payload) (maybe_in n m.partition_key) keys;
      partition_key = and_right (part_in n m.payload) (maybe_in n m.partition_key) keys;
      ordering_key = and_right (part_in n m.payload && maybe_in n m.partition_key) (maybe_in n m.ordering_key) e;
    }

pub all_in_lem : (n : ℕ) (ms : List SingleMessage) → all_in n ms ≡ true → All (InStore n) ms
all_in_lem n [] e = tt
all_in_lem n (m ∷ ms) e = (single_in_lem n m (and_left (single_in n m) (all_in n ms) e), all_in_lem n ms (and_right (single_in n m) (all_in n ms) e))

module _ (held : List SingleMessage) (full : length held ≡ held_size) (h k : ℕ) where
  pub held_length : length (ring held_size held h k) ≡ min k held_size
  held_length = length_ring held_size (lit< tt) held full h k

-- a row of the ring's slots, and the message that it stands for
pub held_there : (rows : List SingleRow) → length rows ≡ held_size → (h k i at : ℕ) (d : SingleRow) (m : SingleMessage) → at ≡ slot held_size h i
    → m ≡ decode_single (get_or rows at d) → get_or (ring held_size (map decode_single rows) h k) i m ≡ m
held_there rows full h k i at d m q e = go (dec_lt i (min k held_size))
  where
    ms : List SingleMessage
    ms = map decode_single rows

    long : length ms ≡ held_size
    long = length-map rows decode_single ∙ full

    below : at < length rows
    below = omega (arith, q, slot_below held_size h i (lit< tt), full)

    go : Dec (i < min k held_size) → get_or (ring held_size ms h k) i m ≡ m
    go (yes b) =
        ring_at held_size (lit< tt) ms long m h k i b
        ∙ ap (λ (j : ℕ). get_or ms j m) (sym q)
        ∙ lists.get_or-map decode_single rows at d m below
        ∙ sym e
    go (no b) = get_or-eq_default (ring held_size ms h k) m (omega (arith, held_length ms long h k))

-- the messages as a loop reads them
module _ (store : List ℕ) (ms : List SingleMessage) (i : ℕ) (m : SingleMessage) (there : get_or ms i m ≡ m) (b : i < length ms) where
  pub held_in_lem : all_in (length store) ms ≡ true → InStore (length store) m
  held_in_lem e = subst (InStore (length store)) there (all_at (InStore (length store)) ms i m (all_in_lem (length store) ms e) b)

  pub held_next : batch_payload store (drop i ms) ≡ item (item_of store m) ++ batch_payload store (drop (i + 1) ms)
  held_next =
      batch_step store ms i m b ∙ ap (λ (x : SingleMessage). item (item_of store x) ++ batch_payload store (drop (i + 1) ms)) there
