-- A message's bytes are as long as its fields say, for every store that its parts lie in: only the keys' lengths count.
use Rattle.std.specs.Prelude.{None, Option, Some}
use Rattle.std.specs.Option.{ForSome}
use Prim.Native.Nat.{ℕ, ◌+◌}
use mathlib.Core.Path.{◌≡◌, refl, sym}
use mathlib.Core.List.{List, [], ◌∷◌, ◌++◌}
use mathlib.Core.Bool.{true}
use native.Mathlib.Omega.{arith}
use lib.ListN.{length, length-append, replicate}
use Rattle.types.specs.Values.{part_of, bytes_of, part_in, maybe_in}
use Rattle.types.specs.declared.message.Part.{Part}
use Rattle.types.specs.declared.message.SingleMessage.{SingleMessage}
use Rattle.wire.specs.Proto.{varint_field, bytes_field, bool_field, optional, be32}
use Rattle.wire.specs.Single.{single}
use Rattle.wire.specs.Batch.{Item, metadata, item, items, item_of, metadata_of, batch_payload, All, InStore}
use Rattle.wire.specs.Fields.{part_length, part_field_length}
use Rattle.wire.specs.Length.{zeros, single_length, item_length, batch_length, LengthRule}

-- a part under a tag, with the store's bytes, and with zeros for them
abbrev part_field : List ℕ → ℕ → Part → List ℕ
part_field store tag p = bytes_field tag (part_of store p)

abbrev blank_field : ℕ → Part → List ℕ
blank_field tag p = bytes_field tag (replicate p.len 0)

maybe_part : (store : List ℕ) (tag : ℕ) (x : Option Part)
    → optional (bytes_field tag) (bytes_of store x) ≡ optional (part_field store tag) x
maybe_part store tag None = refl
maybe_part store tag (Some p) = refl

maybe_blank : (tag : ℕ) (x : Option Part) → optional (bytes_field tag) (zeros x) ≡ optional (blank_field tag) x
maybe_blank tag None = refl
maybe_blank tag (Some p) = grind arith

maybe_length : (store : List ℕ) (tag : ℕ) (x : Option Part) → maybe_in (length store) x ≡ true
    → length (optional (part_field store tag) x) ≡ length (optional (blank_field tag) x)
maybe_length store tag None h = refl
maybe_length store tag (Some p) h = part_field_length store tag p h

pub maybe_stored : (n : ℕ) (x : Option Part) → maybe_in n x ≡ true → ForSome x (λ p. part_in n p ≡ true)
maybe_stored n x h p e = rw e at h

-- ── a single metadata, field by field ──

abbrev fields : (ℕ → Part → List ℕ) → SingleMessage → List ℕ
fields part m =
    optional (part 2) m.partition_key
    ++ varint_field 3 m.payload.len
    ++ optional (varint_field 5) m.event_time
    ++ optional (part 7) m.ordering_key
    ++ optional (bool_field 9) m.null_value
    ++ optional (bool_field 10) m.null_partition_key

pub single_written : (store : List ℕ) (m : SingleMessage) → InStore (length store) m
    → single (metadata_of store m) ≡ fields (part_field store) m
unfolding single
single_written store m i =
    rw (part_length store m.payload i.payload, maybe_part store 2 m.partition_key, maybe_part store 7 m.ordering_key)

pub single_blank : (m : SingleMessage) → single_length m ≡ length (fields blank_field m)
unfolding single_length single
single_blank m = rw (maybe_blank 2 m.partition_key, maybe_blank 7 m.ordering_key)

-- for the functions that go through the six fields
pub ruleset single_steps = (single_written, single_blank, maybe_stored, length-append)

-- ── lengths ──

pub be32_length : (n : ℕ) → length (be32 n) ≡ 4
unfolding be32
be32_length n = refl

pub item_size : (i : Item) → length (item i) ≡ 4 + length (single (metadata i)) + length i.payload
unfolding item
item_size i = simp (length-append, be32_length)

module _ (store : List ℕ) (m : SingleMessage) (i : InStore (length store) m) where
  pub single_length_lem : length (single (metadata_of store m)) ≡ single_length m
  single_length_lem =
      rw (single_written store m i, single_blank m)
      (simp length-append (rw (maybe_length store 2 m.partition_key i.partition_key, maybe_length store 7 m.ordering_key i.ordering_key)))

  pub item_length_lem : length (item (item_of store m)) ≡ item_length m
  unfolding item_length
  item_length_lem =
      omega (arith, item_size (item_of store m), single_length_lem, part_length store m.payload i.payload)

pub length_rule : LengthRule
length_rule store m i = (sym (single_length_lem store m i), sym (item_length_lem store m i))

pub batch_length_lem : (store : List ℕ) (ms : List SingleMessage) → All (InStore (length store)) ms
    → length (batch_payload store ms) ≡ batch_length ms
unfolding items batch_length
batch_length_lem store [] i = refl
batch_length_lem store (m ∷ ms) i =
    simp length-append (omega (arith, item_length_lem store m i.0, batch_length_lem store ms i.1))
