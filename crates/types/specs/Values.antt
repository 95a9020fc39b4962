-- What the values stand for: a part is the store's bytes, and what may be absent is an option, so that absent differs from empty and from false.
use Rattle.std.specs.Prelude.{ℕ, ◌+◌, min, Bool, true, List, take, drop, leb, None, Option, Some}
use Rattle.types.specs.Bounds.{longest_name}
use Rattle.types.specs.declared.message.Part.{Part}
use Rattle.types.specs.declared.frame.ProducerName.{ProducerName}

-- a part of the store
abbrev pub part_of : List ℕ → Part → List ℕ
part_of store p = take p.len (drop p.start store)

abbrev pub bytes_of : List ℕ → Option Part → Option (List ℕ)
bytes_of store None = None
bytes_of store (Some p) = Some (part_of store p)

-- a producer's name, held as up to 64 bytes
abbrev pub clipped : ProducerName → ProducerName
clipped n = record n { len = min n.len longest_name }

abbrev pub name_of : ProducerName → List ℕ
name_of n = take (clipped n).len n.bytes

-- a part lies in a store of n bytes; one of length 0 has an end too, and an absent one is not tested
abbrev pub part_in : ℕ → Part → Bool
part_in n p = leb (p.start + p.len) n

abbrev pub maybe_in : ℕ → Option Part → Bool
maybe_in n None = true
maybe_in n (Some p) = part_in n p

-- a part of at most k bytes; an absent one is
abbrev pub up_to : ℕ → Option Part → Bool
up_to k None = true
up_to k (Some p) = leb p.len k
