-- A field of a part is as long over a store as with zeros for the part's bytes, which is the law of `Field` at a part.
use Rattle.std.proofs.Common.{◌≡◌, ℕ, ◌+◌, ◌≤◌, true, List, length, drop, replicate, arith, length-append, length-drop}
use Rattle.std.proofs.lemmas.List.{length-take-le, length-replicate}
use borrow.Author.Tests.{leb-true}
use Rattle.types.specs.Values.{part_of, part_in}
use Rattle.types.specs.declared.message.Part.{Part}
use Rattle.wire.specs.Proto.{bytes_field}

pub part_end : (n : ℕ) (p : Part) → part_in n p ≡ true → p.start + p.len ≤ n
part_end n p h = leb-true (p.start + p.len) n h

pub part_length : (store : List ℕ) (p : Part) → part_in (length store) p ≡ true → length (part_of store p) ≡ p.len
part_length store p h =
    let e = part_end (length store) p h in
    length-take-le p.len (drop p.start store) (rw length-drop (omega arith))

pub part_field_length : (store : List ℕ) (tag : ℕ) (p : Part) → part_in (length store) p ≡ true
    → length (bytes_field tag (part_of store p)) ≡ length (bytes_field tag (replicate p.len 0))
unfolding bytes_field
part_field_length store tag p h = simp length-append (rw (part_length store p h, length-replicate))
