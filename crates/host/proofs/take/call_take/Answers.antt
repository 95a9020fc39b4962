-- `host::take::call_take`: the payload is written to a part of the output, and the answer around it.
use Rattle.host.proofs.Framing.{lent}
use Rattle.host.proofs.take.call_take.Goals as goal

pub returns : goal.returns
returns g c =
    let b = c.buffer_of-buffer in
    record {
      same_reference = c.put_taken.ensures.same_reference;
      wrote = c.put_taken.ensures.completes _ (lent _ _ b.result.start b.result.end b.result.onward b.ensures.inside c.next_outbound_frame-answer.ensures);
    }
