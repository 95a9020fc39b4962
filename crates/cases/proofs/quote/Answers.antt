-- `cases::quote`: the parts lie in the store, and the buffer is as long as the bytes.
use mathlib.Core.Path.{refl}
use lib.Dec.{lit≤}
use Rattle.wire.specs.Proto.{varint_by, varint, key, varint_field, bytes_field, be32}
use Rattle.wire.specs.Single.{single}
use Rattle.wire.specs.Batch.{item}
use Rattle.cases.proofs.quote.Goals as goal

pub put_item-requires : goal.put_item-requires
unfolding varint varint_by key varint_field bytes_field be32 single item
put_item-requires g c =
    rw c.message-m.ensures
    (record { payload = refl; partition_key = refl; ordering_key = refl }, record { fits = lit≤ tt })
