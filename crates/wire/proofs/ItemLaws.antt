-- The items of a batch are read back: a bounded item's single metadata is short enough for four bytes to say its length.
use Rattle.std.specs.Prelude.{Option, Some, unwrap_or}
use Prim.Native.Nat.{ℕ, zero, suc, ◌+◌, ◌*◌, ◌/◌, ◌%◌, ◌^◌, ◌≤◌, ◌<◌}
use mathlib.Core.Path.{◌≡◌, refl}
use mathlib.Core.List.{List, [], ◌∷◌, ◌++◌, append_assoc, map}
use mathlib.Core.Bool.{Bool}
use native.Mathlib.Omega.{arith}
use Rattle.std.proofs.lemmas.Grind.{common_steps}
use lib.ListN.{length, drop, get_or, length-append, length-take, length-map}
use lib.Seq.{drop-cons}
use Rattle.types.specs.Bounds.{longest_key}
use Rattle.types.specs.Values.{bytes_of}
use Rattle.types.specs.declared.message.SingleMessage.{SingleMessage}
use Rattle.wire.specs.Proto.{key, varint_field, bytes_field, bool_field, optional, be32}
use Rattle.wire.specs.Single.{SingleMetadata, single}
use Rattle.wire.specs.Batch.{Item, metadata, item, items, item_of, batch_payload, All, len_of, Bounded, WithinBounds}
use Rattle.wire.specs.Length.{zeros, blank_metadata, single_length, item_length}
use Rattle.wire.specs.Read.{read_be32, read_item, read_items}
use Rattle.wire.proofs.VarintLaws.{short, at_most_ten}
use Rattle.wire.proofs.ReadLaws.{read_count_lem, read_single_lem}
use Rattle.types.specs.declared.message.Part.{Part}

-- ── four bytes ──

four : (n : ℕ) → n < 2 ^ 32 → ((n / 2 ^ 24 % 256 * 256 + n / 2 ^ 16 % 256) * 256 + n / 2 ^ 8 % 256) * 256 + n % 256 ≡ n
four n h = omega arith

pub read_be32_lem : (n : ℕ) (rest : List ℕ) → n < 2 ^ 32 → read_be32 (be32 n ++ rest) ≡ Some (n, rest)
unfolding read_be32 be32
read_be32_lem n rest h = grind (arith, four)

-- ── how long a single metadata can be ──

module _ (tag : ℕ) (t : tag < 16) where
  number_short : (v : ℕ) → v < 2 ^ 64 → length (varint_field tag v) ≤ 11
  unfolding varint_field key
  number_short v h = grind (arith, common_steps, short 0 (tag * 8 + 0), at_most_ten)

  maybe_number_short : (x : Option ℕ) → unwrap_or x 0 < 2 ^ 64 → length (optional (varint_field tag) x) ≤ 11
  maybe_number_short x h = grind (arith, common_steps, number_short)

  maybe_bool_short : (x : Option Bool) → length (optional (bool_field tag) x) ≤ 11
  maybe_bool_short x = grind (arith, common_steps, number_short)

  maybe_bytes_short : (x : Option (List ℕ)) → length (unwrap_or x []) ≤ longest_key → length (optional (bytes_field tag) x) ≤ 1035
  unfolding bytes_field key
  maybe_bytes_short x h = grind (arith, common_steps, short 0 (tag * 8 + 2), at_most_ten)

pub single_short : (m : SingleMetadata) → length (unwrap_or m.partition_key []) ≤ longest_key → m.payload_size < 2 ^ 64
    → unwrap_or m.event_time 0 < 2 ^ 64 → length (unwrap_or m.ordering_key []) ≤ longest_key → length (single m) ≤ 2114
unfolding single
single_short m k s e o =
    simp length-append
    (omega (
      arith,
      maybe_bytes_short 2 (omega arith) m.partition_key k,
      number_short 3 (omega arith) m.payload_size s,
      maybe_number_short 5 (omega arith) m.event_time e,
      maybe_bytes_short 7 (omega arith) m.ordering_key o,
      maybe_bool_short 9 (omega arith) m.null_value,
      maybe_bool_short 10 (omega arith) m.null_partition_key,
    ))

-- ── items ──

pub read_item_lem : (i : Item) (rest : List ℕ) → Bounded i → read_item (item i ++ rest) ≡ Some (i, rest)
unfolding read_item item
read_item_lem i rest b =
    let head = single (metadata i) in
    let p = b.payload in
    let size : length i.payload < 2 ^ 31 = omega arith in
    let short : length head < 2 ^ 32 =
    omega (arith, single_short (metadata i) b.partition_key (omega arith) b.event_time b.ordering_key) in
    simp append_assoc
    (rw (
      read_be32_lem (length head) (head ++ (i.payload ++ rest)) short,
      read_count_lem head (i.payload ++ rest),
      read_single_lem (metadata i) size b.event_time,
      read_count_lem i.payload rest,
    ))

-- so many items, and nothing after them
pub read_items_lem : (is : List Item) → All Bounded is → read_items (length is) (items is) ≡ Some is
unfolding read_items items
read_items_lem [] b = refl
read_items_lem (i ∷ is) b = grind (arith, read_item_lem, read_items_lem is)

pub items_append : (a b : List Item) → items (a ++ b) ≡ items a ++ items b
unfolding items
items_append [] b = refl
items_append (i ∷ a) b = grind (arith, common_steps, items_append a b)

-- ── over a store ──

part_short : (store : List ℕ) (x : Option Part) → len_of x ≤ longest_key → length (unwrap_or (bytes_of store x) []) ≤ longest_key
part_short store x h = grind (arith, common_steps)

pub bounded : (store : List ℕ) (m : SingleMessage) → WithinBounds m → Bounded (item_of store m)
bounded store m h =
    let p = h.payload in
    record {
      payload = rw length-take (omega arith);
      partition_key = part_short store m.partition_key h.partition_key;
      ordering_key = part_short store m.ordering_key h.ordering_key;
      event_time = h.event_time;
    }

all_bounded : (store : List ℕ) (ms : List SingleMessage) → All WithinBounds ms → All Bounded (map (item_of store) ms)
all_bounded store [] h = tt
all_bounded store (m ∷ ms) h = (bounded store m h.0, all_bounded store ms h.1)

-- the parts need not lie in the store: what is written is what the store has of them
pub read_batch : (store : List ℕ) (ms : List SingleMessage) → All WithinBounds ms
    → read_items (length ms) (batch_payload store ms) ≡ Some (map (item_of store) ms)
read_batch store ms h =
    rw (← length-map ms (item_of store)) (read_items_lem (map (item_of store) ms) (all_bounded store ms h))

-- what holds of each message holds of the i-th
pub all_at : {A : Type 0} (P : A → Type 0) (xs : List A) (i : ℕ) (d : A) → All P xs → i < length xs → P (get_or xs i d)
all_at P [] i d h l = absurd (omega arith)
all_at P (x ∷ xs) zero d h l = h.0
all_at P (x ∷ xs) (suc i) d h l = all_at P xs i d h.1 (omega arith)

-- one message more
pub batch_step : (store : List ℕ) (ms : List SingleMessage) (i : ℕ) (d : SingleMessage) → i < length ms
    → batch_payload store (drop i ms) ≡ item (item_of store (get_or ms i d)) ++ batch_payload store (drop (i + 1) ms)
unfolding items
batch_step store ms i d h = grind (arith, common_steps, drop-cons)

-- ── how long an item can be: the sums of a batch of 512 never stop ──

zeros_short : (x : Option Part) → len_of x ≤ longest_key → length (unwrap_or (zeros x) []) ≤ longest_key
zeros_short x h = grind (arith, common_steps)

pub item_short : (m : SingleMessage) → WithinBounds m → item_length m ≤ 16779334
unfolding item_length single_length
item_short m h =
    let p = h.payload in
    grind (arith, zeros_short, single_short (blank_metadata m))
