-- `wire::uuid::uuid_text`: the text fills the 36 characters.
use native.Mathlib.Omega.{arith}
use mathlib.Core.Path.{sym, ◌∙◌}
use Rattle.wire.proofs.UuidLaws.{text_length, by_bytes}
use Rattle.wire.proofs.Writes.{filled}
use Rattle.wire.proofs.uuid.uuid_text.Goals as goal

pub put_uuid-requires : goal.put_uuid-requires
put_uuid-requires c =
    record { fits = omega (arith, text_length c.args.uuid c.well_formed.0.1.0.1) }

pub returns : goal.returns
returns c =
    let sixteen = c.well_formed.0.1.0.1 in
    filled c.put_uuid.ensures (text_length c.args.uuid sixteen)
    ∙ sym (by_bytes c.args.uuid sixteen)
