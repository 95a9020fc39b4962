-- `wire::uuid::put_uuid`: what is written and the text of the bytes that are left make the whole text.
use Rattle.std.proofs.lemmas.List.{drop_all}
use Rattle.wire.specs.Uuid.{text_from}
use Rattle.wire.proofs.UuidLaws.{text_step}
use Rattle.wire.proofs.Writes.{going_lent_room, going_lent, going_end}
use Rattle.wire.proofs.uuid.put_uuid.Goals as goal

pub put_dash-n-requires : goal.put_dash-n-requires
put_dash-n-requires c =
    let step = text_step c.args.uuid.now c.loop-i.i c.loop-i-test.true in
    going_lent_room _ (rw step at c.loop-i.invariant) c.requires

pub put_hex-n-requires : goal.put_hex-n-requires
put_hex-n-requires c =
    let step = text_step c.args.uuid.now c.loop-i.i c.loop-i-test.true in
    going_lent_room _ (going_lent (rw step at c.loop-i.invariant) c.put_dash-n.ensures) c.requires

pub loop-i-preserved : goal.loop-i-preserved
loop-i-preserved c =
    let step = text_step c.args.uuid.now c.loop-i.i c.loop-i-test.true in
    going_lent (going_lent (rw step at c.loop-i.invariant) c.put_dash-n.ensures) c.put_hex-n.ensures

pub returns : goal.returns
unfolding text_from
returns c = going_end (rw (drop_all c.loop-i.i c.args.uuid.now c.loop-i-test.false) at c.loop-i.invariant)
