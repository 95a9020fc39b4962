-- A field of a part: the key, the length and then the bytes.
use Rattle.std.proofs.Math.Nat.{add-sub_cancel_left}
use Rattle.wire.specs.Fields.{part_length}
use Rattle.wire.specs.Proto.{bytes_field}
use Rattle.wire.proofs.Writes.{then, then_copied}
use Rattle.wire.proofs.field.PartField.put_field.Goals as goal

pub returns : goal.returns
unfolding bytes_field
returns c =
    let size = part_length c.args.store.now c.args.self c.requires.stored in
    let head = then (rw c.key.ensures at c.put_varint-n.ensures) c.put_varint-n-2.ensures in
    rw size (then_copied (rw size at c.requires.room) head size (rw add-sub_cancel_left at c.copy_from_slice.ensures.after))
