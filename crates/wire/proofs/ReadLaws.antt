-- What was written is read back, and then whatever follows: each reader takes exactly the bytes of its writer, and an absent
-- field is seen by the key of a later one, or by the end.
use Rattle.std.specs.Prelude.{Option, Some, None, unwrap_or}
use Prim.Native.Nat.{ℕ, zero, suc, ◌/◌, ◌^◌, ◌≤◌, ◌<◌}
use mathlib.Core.Path.{◌≡◌, refl}
use mathlib.Core.List.{List, [], ◌∷◌, ◌++◌, append_assoc, append-nil}
use mathlib.Core.Bool.{Bool}
use native.Mathlib.Omega.{arith}
use Rattle.std.proofs.lemmas.Grind.{common_steps}
use lib.ListN.{length}
use Rattle.wire.specs.Proto.{varint, key, varint_field, bytes_field, bool_number, bool_field, optional}
use Rattle.wire.specs.Single.{SingleMetadata, single}
use Rattle.wire.specs.Read.{Got, with_low, read_varint, read_below, read_count, read_bytes, read_uint64, read_size, read_bool, after_key, read_field, read_optional, read_fields, read_single}
use Rattle.wire.proofs.VarintLaws.{small, large}

-- ── values ──

-- the last byte, and one before it
pub read_last : (b : ℕ) (bs : List ℕ) → b < 128 → read_varint (b ∷ bs) ≡ Some (b, bs)
unfolding read_varint
read_last b bs h = grind (arith, common_steps)

pub read_more : (b : ℕ) (bs : List ℕ) → 128 ≤ b → read_varint (b ∷ bs) ≡ with_low b (read_varint bs)
unfolding read_varint
read_more b bs h = grind (arith, common_steps)

read_varint_by : (n v : ℕ) (rest : List ℕ) → v ≤ n → read_varint (varint v ++ rest) ≡ Some (v, rest)
read_varint_by zero v rest h = grind (arith, common_steps, small, read_last)
read_varint_by (suc n) v rest h = grind (arith, common_steps, small, large, read_last, read_more, read_varint_by n (v / 128) rest)

pub read_varint_lem : (v : ℕ) (rest : List ℕ) → read_varint (varint v ++ rest) ≡ Some (v, rest)
read_varint_lem v rest = read_varint_by v v rest (omega arith)

pub read_below_lem : (limit v : ℕ) (rest : List ℕ) → v < limit → read_below limit (varint v ++ rest) ≡ Some (v, rest)
unfolding read_below
read_below_lem limit v rest h = grind (arith, read_varint_lem)

pub read_count_lem : (bs rest : List ℕ) → read_count (length bs) (bs ++ rest) ≡ Some (bs, rest)
unfolding read_count
read_count_lem bs rest = grind (arith, common_steps)

read_bytes_lem : (bs rest : List ℕ) → read_bytes (varint (length bs) ++ (bs ++ rest)) ≡ Some (bs, rest)
unfolding read_bytes
read_bytes_lem bs rest = grind (arith, read_varint_lem, read_count_lem)

read_bool_lem : (b : Bool) (rest : List ℕ) → read_bool (varint (bool_number b) ++ rest) ≡ Some (b, rest)
read_bool_lem b rest = grind (arith, read_below_lem)

-- ── fields ──

after_key_lem : (tag wire : ℕ) (rest : List ℕ) → after_key tag wire (key tag wire ++ rest) ≡ Some rest
unfolding after_key key
after_key_lem tag wire rest = grind (arith, read_varint_lem)

-- no key of a tag below t comes next
Later : ℕ → List ℕ → Type 0
Later t bs = (tag wire : ℕ) → tag < t → wire < 8 → after_key tag wire bs ≡ None

later_end : (t : ℕ) → Later t []
unfolding Later after_key read_varint
later_end t tag wire a b = refl

later_key : (t tag wire : ℕ) (rest : List ℕ) → t ≤ tag → wire < 8 → Later t (key tag wire ++ rest)
unfolding Later after_key key
later_key t tag wire rest h w tag₂ wire₂ a b = grind (arith, read_varint_lem)

-- a field of either form, and one that may be absent
module _ (t tag : ℕ) (rest : List ℕ) (h : t ≤ tag) where
  later_number : (v : ℕ) → Later t (varint_field tag v ++ rest)
  unfolding varint_field
  later_number v = grind (arith, common_steps, later_key)

  later_maybe_bool : (x : Option Bool) → Later t rest → Later t (optional (bool_field tag) x ++ rest)
  later_maybe_bool x l = grind (arith, later_number)

  later_maybe_bytes : (x : Option (List ℕ)) → Later t rest → Later t (optional (bytes_field tag) x ++ rest)
  unfolding bytes_field
  later_maybe_bytes x l = grind (arith, common_steps, later_key)

module _ (tag : ℕ) (rest : List ℕ) where
  absent : {A : Type 0} (wire : ℕ) (value : List ℕ → Got A) → wire < 8 → Later (suc tag) rest
      → read_optional tag wire value rest ≡ Some (None, rest)
  unfolding Later
  absent wire value w l = rw (l tag wire (omega arith) w)

  read_maybe_bytes : (x : Option (List ℕ)) → Later (suc tag) rest
      → read_optional tag 2 read_bytes (optional (bytes_field tag) x ++ rest) ≡ Some (x, rest)
  unfolding bytes_field
  read_maybe_bytes x l = grind (arith, common_steps, absent, after_key_lem, read_bytes_lem)

  read_maybe_number : (limit : ℕ) (x : Option ℕ) → unwrap_or x 0 < limit → Later (suc tag) rest
      → read_optional tag 0 (read_below limit) (optional (varint_field tag) x ++ rest) ≡ Some (x, rest)
  unfolding varint_field
  read_maybe_number limit x h l = grind (arith, common_steps, absent, after_key_lem, read_below_lem)

  read_maybe_bool : (x : Option Bool) → Later (suc tag) rest
      → read_optional tag 0 read_bool (optional (bool_field tag) x ++ rest) ≡ Some (x, rest)
  unfolding varint_field
  read_maybe_bool x l = grind (arith, common_steps, absent, after_key_lem, read_bool_lem)

  read_number : (limit v : ℕ) → v < limit → read_field tag 0 (read_below limit) (varint_field tag v ++ rest) ≡ Some (v, rest)
  unfolding varint_field
  read_number limit v h = grind (arith, common_steps, after_key_lem, read_below_lem)

-- ── single metadata ──

module _ (m : SingleMetadata) where
  f10 : List ℕ
  f10 = optional (bool_field 10) m.null_partition_key ++ []

  f9 : List ℕ
  f9 = optional (bool_field 9) m.null_value ++ f10

  f7 : List ℕ
  f7 = optional (bytes_field 7) m.ordering_key ++ f9

  f5 : List ℕ
  f5 = optional (varint_field 5) m.event_time ++ f7

  f3 : List ℕ
  f3 = varint_field 3 m.payload_size ++ f5

  from : single m ≡ optional (bytes_field 2) m.partition_key ++ f3
  unfolding single f3 f5 f7 f9 f10
  from = simp (append_assoc, append-nil)

  later10 : (t : ℕ) → t ≤ 10 → Later t f10
  unfolding f10
  later10 t h = later_maybe_bool t 10 [] h m.null_partition_key (later_end t)

  later9 : (t : ℕ) → t ≤ 9 → Later t f9
  unfolding f9
  later9 t h = later_maybe_bool t 9 f10 h m.null_value (later10 t (omega arith))

  later7 : (t : ℕ) → t ≤ 7 → Later t f7
  unfolding f7
  later7 t h = later_maybe_bytes t 7 f9 h m.ordering_key (later9 t (omega arith))

  later3 : Later 3 f3
  unfolding f3
  later3 = later_number 3 3 f5 (omega arith) m.payload_size

  step3 : m.payload_size < 2 ^ 31 → read_field 3 0 read_size f3 ≡ Some (m.payload_size, f5)
  unfolding f3
  step3 h = read_number 3 f5 (2 ^ 31) m.payload_size h

  step5 : unwrap_or m.event_time 0 < 2 ^ 64 → read_optional 5 0 read_uint64 f5 ≡ Some (m.event_time, f7)
  unfolding f5
  step5 h = read_maybe_number 5 f7 (2 ^ 64) m.event_time h (later7 6 (omega arith))

  step7 : read_optional 7 2 read_bytes f7 ≡ Some (m.ordering_key, f9)
  unfolding f7
  step7 = read_maybe_bytes 7 f9 m.ordering_key (later9 8 (omega arith))

  step9 : read_optional 9 0 read_bool f9 ≡ Some (m.null_value, f10)
  unfolding f9
  step9 = read_maybe_bool 9 f10 m.null_value (later10 10 (omega arith))

  step10 : read_optional 10 0 read_bool f10 ≡ Some (m.null_partition_key, [])
  unfolding f10
  step10 = read_maybe_bool 10 [] m.null_partition_key (later_end 11)

  pub read_single_lem : m.payload_size < 2 ^ 31 → unwrap_or m.event_time 0 < 2 ^ 64 → read_single (single m) ≡ Some m
  unfolding read_single read_fields
  read_single_lem s e =
      rw (from, read_maybe_bytes 2 f3 m.partition_key later3, step3 s, step5 e, step7, step9, step10)
