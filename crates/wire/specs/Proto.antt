-- The Protocol Buffers encoding, as far as a single metadata uses it; and 4 bytes big-endian, as the Pulsar binary protocol has them.
use Rattle.std.specs.Prelude.{ℕ, zero, suc, ◌+◌, ◌-◌, ◌*◌, ◌/◌, ◌%◌, ◌^◌, ◌<◌, List, [], ◌∷◌, ◌++◌, Bool, true, false, length, ltb, ℤ, pos, negsuc, None, Option, Some}

-- a byte
abbrev pub Byte : ℕ → Type 0
Byte b = b < 256

-- base-128 varint: a number below 128 is one byte; another is its low seven bits with 128 added, and then the varint of the rest
unfoldable pub varint_by : ℕ → ℕ → List ℕ
varint_by zero v = v ∷ []
varint_by (suc steps) v =
    elim (ltb v 128) as (λ _. List ℕ) [ true ↦ v ∷ [] | false ↦ (v % 128 + 128) ∷ varint_by steps (v / 128) ]

-- v steps are enough for v
unfoldable pub varint : ℕ → List ℕ
varint v = varint_by v v

-- a field's key: its tag, and the wire type in the low three bits
unfoldable pub key : ℕ → ℕ → List ℕ
key tag wire = varint (tag * 8 + wire)

-- wire type 0: a varint
unfoldable pub varint_field : ℕ → ℕ → List ℕ
varint_field tag v = key tag 0 ++ varint v

-- wire type 2: a length, and that many bytes
unfoldable pub bytes_field : ℕ → List ℕ → List ℕ
bytes_field tag bytes = key tag 2 ++ varint (length bytes) ++ bytes

-- an int32 is extended to 64 bits by its sign, so that a negative one takes ten bytes (`negative_ten` in proofs/VarintLaws.antt)
abbrev pub extended : ℤ → ℕ
extended (pos n) = n
extended (negsuc n) = 2 ^ 64 - 1 - n

abbrev pub int32_field : ℕ → ℤ → List ℕ
int32_field tag n = varint_field tag (extended n)

-- a bool is 1 or 0
abbrev pub bool_number : Bool → ℕ
bool_number true = 1
bool_number false = 0

abbrev pub bool_field : ℕ → Bool → List ℕ
bool_field tag b = varint_field tag (bool_number b)

-- an absent field is left out
abbrev pub optional : {A : Type 0} → (A → List ℕ) → Option A → List ℕ
optional field None = []
optional field (Some x) = field x

-- the four bytes of a number, the highest first
unfoldable pub be32 : ℕ → List ℕ
be32 n = (n / 2 ^ 24 % 256) ∷ (n / 2 ^ 16 % 256) ∷ (n / 2 ^ 8 % 256) ∷ (n % 256) ∷ []
