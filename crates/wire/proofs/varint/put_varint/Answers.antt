-- `wire::varint::put_varint`: each turn writes one byte more of the varint.
use Rattle.std.proofs.Common.{◌<◌, length, arith}
use Rattle.wire.proofs.VarintLaws.{small, large, one_or_more}
use Rattle.wire.proofs.Writes.{going_start, going_fits, going_step, going_end, put_byte}
use Rattle.wire.proofs.varint.put_varint.Goals as goal

pub loop-rest-init : goal.loop-rest-init
loop-rest-init c = going_start c.requires

pub bounds-out-n : goal.bounds-out-n
bounds-out-n c = omega (arith, going_fits c.loop-rest.invariant c.requires.fits, one_or_more c.loop-rest.rest)

pub loop-rest-preserved : goal.loop-rest-preserved
loop-rest-preserved c =
    let l = c.loop-rest in
    let here : l.n < length l.out = omega (arith, going_fits l.invariant c.requires.fits, one_or_more l.rest) in
    going_step (rw (large l.rest c.loop-rest-test.true) at l.invariant) (put_byte l.out l.n _ here)

pub bounds-out-n-2 : goal.bounds-out-n-2
bounds-out-n-2 c = omega (arith, going_fits c.loop-rest.invariant c.requires.fits, one_or_more c.loop-rest.rest)

pub returns : goal.returns
returns c =
    let l = c.loop-rest in
    let here : l.n < length l.out = omega (arith, going_fits l.invariant c.requires.fits, one_or_more l.rest) in
    going_end (going_step (rw (small l.rest c.loop-rest-test.false) at l.invariant) (put_byte l.out l.n _ here))
