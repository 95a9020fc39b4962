-- `wire::batch::put_item`: the length worked out from the fields in front, the single metadata behind it, and the payload behind both.
use Rattle.std.proofs.Common.{arith, length}
use Rattle.std.proofs.Math.Nat.{add-sub_cancel_left}
use Rattle.wire.specs.Batch.{item, item_of, metadata_of}
use Rattle.wire.specs.Fields.{part_length}
use Rattle.wire.specs.Single.{single}
use Rattle.wire.proofs.Lengths.{item_size, single_length_lem}
use Rattle.wire.proofs.Writes.{answered, header, then, then_copied}
use Rattle.wire.proofs.batch.put_item.Goals as goal

pub returns : goal.returns
unfolding item
returns c =
    let store = c.args.store.now in
    let m = c.args.m in
    let room = c.requires.1.fits in
    let size = item_size (item_of store m) in
    let worked_out = single_length_lem store m c.requires.0 in
    let n = length (single (metadata_of store m)) in
    let four = header n (omega (arith, c.single_len-n.ensures, worked_out)) c.put_be32.ensures in
    let head = then four c.put_single.ensures in
    let length = part_length store m.payload c.requires.0.payload in
    then_copied c.requires.1 (answered head (omega arith)) length (rw add-sub_cancel_left at c.copy_from_slice.ensures.after)
