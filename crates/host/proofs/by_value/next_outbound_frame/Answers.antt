-- The payload is written to the start of the buffer.
use Rattle.std.proofs.Common.{rules}
use Rattle.host.proofs.Takes.{taken_fits, wrote}
use Rattle.host.proofs.by_value.next_outbound_frame.Goals as goal

pub returns : goal.returns
returns c =
    let r = c.next_outbound_frame-r in
    wrote _ _ _ (search rules) r.result.answer (taken_fits _ _ _ _ _ r.result.answer r.ensures.meets r.ensures.own) r.ensures.buffer_after
