-- `script::write::Output::put_raw`: what was tested is that the bytes have room.
use Rattle.std.proofs.Common.{◌≡◌, ◌+◌, ◌-◌, ◌≤◌, length, refl, arith}
use Rattle.script.proofs.Outputs.{pasted, further}
use Rattle.script.proofs.write.Output.put_raw.Goals as goal

pub returns-then-bytes-self : goal.returns-then-bytes-self
returns-then-bytes-self c =
    let n = length c.args.bytes.now in
    let at = c.args.self.now.at in
    let e : at + n - at ≡ n = omega arith in
    let h : at + n ≤ length c.args.self.now.bytes.now = omega arith in
    let l : length c.copy_from_slice.new.self ≡ n = rw c.copy_from_slice.ensures.after refl in
    record {
      same_reference = refl;
      wrote = further {m = at + n} (rw e (pasted c.args.self.now.bytes.now c.copy_from_slice.new.self at n h l)) (omega arith) (omega arith);
    }
