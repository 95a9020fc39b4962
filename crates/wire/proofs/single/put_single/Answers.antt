-- `wire::single::put_single`: the six fields, one after the other.
use Rattle.wire.proofs.Writes.{then}
use Rattle.wire.proofs.Lengths.{single_written}
use Rattle.wire.proofs.single.put_single.Goals as goal

pub returns : goal.returns
returns c =
    let two = then c.put_field-n.ensures c.put_field-n-2.ensures in
    let four = then (then two c.put_field-n-3.ensures) c.put_field-n-4.ensures in
    rw (single_written c.args.store.now c.args.m c.requires.0) (then (then four c.put_field-n-5.ensures) c.put_field.ensures)
