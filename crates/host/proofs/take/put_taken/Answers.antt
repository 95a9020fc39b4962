-- `host::take::put_taken`: around a payload that was taken, with a head before it and the rest behind, or from the start.
use Rattle.std.proofs.Common.{◌≡◌, ◌+◌, ◌≤◌, length, ap, arith}
use Rattle.host.specs.Framing.{bytes_taken}
use Rattle.host.proofs.Framing.{none_stands, framed}
use Rattle.host.proofs.take.put_taken.Goals as goal
use Rattle.script.proofs.Writings.{both}

pub returns-in-Ok-clause-completes : goal.returns-in-Ok-clause-completes
returns-in-Ok-clause-completes c first w =
    let a = c.args in
    let n = c.in-Ok.frame.payload_len in
    let e : bytes_taken a.answer ≡ n = ap bytes_taken c.in-Ok.is in
    let h = a.buffer.onward in
    let l : a.buffer.start + n ≤ length a.out.now.bytes.now = omega (arith, e, c.requires.1, c.requires.2) in
    framed n c.requires.0 l c.put_frame_head-out.ensures (both c.put.ensures c.put_metadata.ensures).wrote first (rw e at w)

pub returns-in-Err-clause-completes : goal.returns-in-Err-clause-completes
returns-in-Err-clause-completes c first w =
    let e : bytes_taken c.args.answer ≡ 0 = ap bytes_taken c.in-Err.is in
    none_stands c.put-in-Err.ensures.wrote first (rw e at w)
