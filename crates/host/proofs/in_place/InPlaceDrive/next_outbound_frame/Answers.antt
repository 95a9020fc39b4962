-- The payload is written to the start of the buffer.
use Rattle.std.proofs.Common.{rules}
use Rattle.host.proofs.Takes.{taken_fits, wrote}
use Rattle.host.proofs.in_place.InPlaceDrive.next_outbound_frame.Goals as goal

pub returns : goal.returns
returns c =
    let r = c.take in
    wrote _ _ _ (search rules) r.result (taken_fits _ _ _ _ _ r.result r.ensures.meets r.ensures.own) r.ensures.buffer_after
