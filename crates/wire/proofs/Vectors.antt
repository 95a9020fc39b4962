-- Published vectors of the Protocol Buffers encoding, and layouts that have no reading, all computed.
use Rattle.std.specs.Prelude.{None}
use Prim.Native.Nat.{ℕ}
use mathlib.Core.Path.{◌≡◌, refl}
use mathlib.Core.List.{List, [], ◌∷◌, map}
use lib.IntN.{negsuc}
use Rattle.wire.specs.Proto.{varint_by, varint, key, varint_field, bytes_field, int32_field}
use Rattle.wire.specs.Read.{read_varint, read_below, read_count, read_bytes, after_key, read_fields, read_single}

-- "testing"
abbrev testing : List ℕ
testing = 0x74 ∷ 0x65 ∷ 0x73 ∷ 0x74 ∷ 0x69 ∷ 0x6e ∷ 0x67 ∷ []

-- what is written, and the bytes that are published
abbrev pub written : List (List ℕ × List ℕ)
written =
    (varint 1, 0x01 ∷ [])
    ∷ (varint 150, 0x96 ∷ 0x01 ∷ [])
    ∷ (varint 300, 0xac ∷ 0x02 ∷ [])
    ∷ (varint_field 1 150, 0x08 ∷ 0x96 ∷ 0x01 ∷ [])
    ∷ (int32_field 1 (negsuc 1), 0x08 ∷ 0xfe ∷ 0xff ∷ 0xff ∷ 0xff ∷ 0xff ∷ 0xff ∷ 0xff ∷ 0xff ∷ 0xff ∷ 0x01 ∷ [])
    ∷ (bytes_field 2 testing, 0x12 ∷ 0x07 ∷ testing)
    ∷ []

pub written_right : map (λ row. row.0) written ≡ map (λ row. row.1) written
unfolding varint varint_by key varint_field bytes_field
written_right = refl

-- no reading: a varint longer than needed, a field repeated, fields out of order, a field that is not named, a bool of 2, no size,
-- a size that is negative
abbrev pub refused : List (List ℕ)
refused =
    (0x18 ∷ 0x85 ∷ 0x00 ∷ [])
    ∷ (0x18 ∷ 0x05 ∷ 0x18 ∷ 0x05 ∷ [])
    ∷ (0x28 ∷ 0x01 ∷ 0x18 ∷ 0x05 ∷ [])
    ∷ (0x18 ∷ 0x05 ∷ 0x20 ∷ 0x01 ∷ [])
    ∷ (0x18 ∷ 0x05 ∷ 0x48 ∷ 0x02 ∷ [])
    ∷ (0x28 ∷ 0x01 ∷ [])
    ∷ (0x18 ∷ 0xff ∷ 0xff ∷ 0xff ∷ 0xff ∷ 0xff ∷ 0xff ∷ 0xff ∷ 0xff ∷ 0xff ∷ 0x01 ∷ [])
    ∷ []

pub refused_right : map read_single refused ≡ map (λ _. None) refused
unfolding read_varint read_below read_count read_bytes after_key read_fields read_single
refused_right = refl
