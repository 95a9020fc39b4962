-- `cases::published`: the parts lie in the store, and the buffer is as long as the bytes.
use mathlib.Core.Path.{refl}
use lib.Dec.{lit≤}
use Rattle.wire.specs.Proto.{varint_by, varint, key, varint_field, bytes_field, be32}
use Rattle.wire.specs.Single.{single}
use Rattle.cases.proofs.published.Goals as goal

pub put_single-requires : goal.put_single-requires
unfolding varint varint_by key varint_field bytes_field be32 single
put_single-requires g c =
    rw c.message-m.ensures
    (record { payload = refl; partition_key = refl; ordering_key = refl }, record { fits = lit≤ tt })
