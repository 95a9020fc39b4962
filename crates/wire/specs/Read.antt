-- The reader of a batch frame's payload. It takes exactly the layout that is written: another order of fields, a field that is
-- not named, a repeated one or a varint longer than needed has no reading. The laws are in proofs/ReadLaws.antt and ReadExact.antt.
use Rattle.std.specs.Prelude.{ℕ, zero, suc, ◌+◌, ◌-◌, ◌*◌, ◌^◌, List, [], ◌∷◌, Bool, true, false, length, take, drop, ltb, leb, eqb, None, Option, Some}
use Rattle.laws.specs.Choice.{pick}
use Rattle.wire.specs.Single.{SingleMetadata}
use Rattle.wire.specs.Batch.{Item}

-- what was read, and what follows; `none` has no reading
abbrev pub Got : Type 0 → Type 0
Got A = Option (A × List ℕ)

abbrev pub bind : {A B : Type 0} → Option A → (A → Option B) → Option B
bind None f = None
bind (Some x) f = f x

abbrev pub got_then : {A B : Type 0} → Got A → (A → List ℕ → Option B) → Option B
got_then None f = None
got_then (Some (x, r)) f = f x r

-- all the bytes are used up
abbrev pub got_all : {A : Type 0} → Got A → Option A
got_all None = None
got_all (Some (x, [])) = Some x
got_all (Some (x, b ∷ r)) = None

abbrev pub cons? : {A : Type 0} → A → Option (List A) → Option (List A)
cons? x None = None
cons? x (Some xs) = Some (x ∷ xs)

-- ── Protocol Buffers ──

-- a byte from 128 on holds seven bits, and the rest follows, which is not 0: a last byte of 0 would be one more than needed
abbrev pub with_low : ℕ → Got ℕ → Got ℕ
with_low b None = None
with_low b (Some (v, r)) = pick (eqb v 0) None (Some (b - 128 + v * 128, r))

unfoldable pub read_varint : List ℕ → Got ℕ
read_varint [] = None
read_varint (b ∷ bs) = elim (ltb b 128) as (λ _. Got ℕ) [ true ↦ Some (b, bs) | false ↦ with_low b (read_varint bs) ]

-- a varint of a number below a limit
unfoldable pub read_below : ℕ → List ℕ → Got ℕ
read_below limit bs = got_then (read_varint bs) (λ v r. pick (ltb v limit) (Some (v, r)) None)

-- so many bytes
unfoldable pub read_count : ℕ → List ℕ → Got (List ℕ)
read_count n bs = pick (leb n (length bs)) (Some (take n bs, drop n bs)) None

-- the values of the fields: a length with its bytes, a uint64, an int32 that is not negative, a bool
unfoldable pub read_bytes : List ℕ → Got (List ℕ)
read_bytes bs = got_then (read_varint bs) read_count

abbrev pub read_uint64 : List ℕ → Got ℕ
read_uint64 bs = read_below (2 ^ 64) bs

abbrev pub read_size : List ℕ → Got ℕ
read_size bs = read_below (2 ^ 31) bs

abbrev pub read_bool : List ℕ → Got Bool
read_bool bs = got_then (read_below 2 bs) (λ v r. Some (eqb v 1, r))

-- what follows a field's key, where that key comes next
unfoldable pub after_key : ℕ → ℕ → List ℕ → Option (List ℕ)
after_key tag wire bs = got_then (read_varint bs) (λ k r. pick (eqb k (tag * 8 + wire)) (Some r) None)

-- a field that must be there
abbrev pub read_field : {A : Type 0} → ℕ → ℕ → (List ℕ → Got A) → List ℕ → Got A
read_field tag wire value bs = bind (after_key tag wire bs) value

-- one that may be absent: it is there if its key comes next
abbrev pub present : {A : Type 0} → (List ℕ → Got A) → List ℕ → Option (List ℕ) → Got (Option A)
present value bs None = Some (None, bs)
present value bs (Some r) = got_then (value r) (λ x rest. Some (Some x, rest))

abbrev pub read_optional : {A : Type 0} → ℕ → ℕ → (List ℕ → Got A) → List ℕ → Got (Option A)
read_optional tag wire value bs = present value bs (after_key tag wire bs)

-- ── single metadata: these fields in this order, and nothing else ──

unfoldable pub read_fields : List ℕ → Got SingleMetadata
read_fields bs =
    got_then (read_optional 2 2 read_bytes bs) (λ partition_key r₁.
    got_then (read_field 3 0 read_size r₁) (λ payload_size r₂.
    got_then (read_optional 5 0 read_uint64 r₂) (λ event_time r₃.
    got_then (read_optional 7 2 read_bytes r₃) (λ ordering_key r₄.
    got_then (read_optional 9 0 read_bool r₄) (λ null_value r₅.
    got_then (read_optional 10 0 read_bool r₅) (λ null_partition_key r₆.
    Some (
      record {
        partition_key = partition_key;
        payload_size = payload_size;
        event_time = event_time;
        ordering_key = ordering_key;
        null_value = null_value;
        null_partition_key = null_partition_key;
      },
      r₆,
    )))))))

unfoldable pub read_single : List ℕ → Option SingleMetadata
read_single bs = got_all (read_fields bs)

-- ── the items of a batch ──

unfoldable pub read_be32 : List ℕ → Got ℕ
read_be32 [] = None
read_be32 (a ∷ []) = None
read_be32 (a ∷ b ∷ []) = None
read_be32 (a ∷ b ∷ c ∷ []) = None
read_be32 (a ∷ b ∷ c ∷ d ∷ r) = Some (((a * 256 + b) * 256 + c) * 256 + d, r)

abbrev pub with_payload : SingleMetadata → List ℕ → Item
with_payload m payload =
    record {
      payload = payload;
      partition_key = m.partition_key;
      ordering_key = m.ordering_key;
      event_time = m.event_time;
      null_value = m.null_value;
      null_partition_key = m.null_partition_key;
    }

-- a length, that many bytes of single metadata, and a payload of the size that it says
unfoldable pub read_item : List ℕ → Got Item
read_item bs =
    got_then (read_be32 bs) (λ n r₁.
    got_then (read_count n r₁) (λ head r₂.
    bind (read_single head) (λ m.
    got_then (read_count m.payload_size r₂) (λ payload r₃. Some (with_payload m payload, r₃)))))

-- so many items, filling the payload
unfoldable pub read_items : ℕ → List ℕ → Option (List Item)
read_items zero [] = Some []
read_items zero (b ∷ bs) = None
read_items (suc n) bs = got_then (read_item bs) (λ i r. cons? i (read_items n r))
