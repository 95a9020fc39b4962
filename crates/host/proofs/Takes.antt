-- A take writes its payload to the start of the buffer that it is lent. Assumes nothing.
use Rattle.std.specs.Prelude.{Err, Ok, Result}
use Rattle.std.proofs.Common.{◌≡◌, ℕ, ◌≤◌, List, length, take, drop, refl, ap, ◌∙◌, arith, length-take-le, drop_at, zero-le}
use Rattle.types.specs.declared.outbound.OutboundFrame.{OutboundFrame}
use Rattle.queue.specs.Take.{written}
use Rattle.queue.specs.Run.{take as take_call}
use Rattle.producer.specs.Meets.{Meets}
use Rattle.producer.specs.Take.{told_frame, OwnParts}
use Rattle.producer.specs.View.{view}
use Rattle.producer.specs.declared.state.ProducerState.{ProducerState}
use Rattle.producer.proofs.Fits.{frame_fits}
use Rattle.script.specs.Output.{Wrote}
use Rattle.host.specs.Framing.{bytes_taken}
use Rattle.script.proofs.Outputs.{nothing}
use Rattle.types.specs.declared.error.ProducerError.{ProducerError}

-- what is answered fits the buffer
pub taken_fits : (store before after : List ℕ) (s t : ProducerState) (a : Result OutboundFrame ProducerError)
    → Meets store (take_call (length before)) s t (told_frame store after a) → OwnParts store (view s) (view s).out.frames a
    → bytes_taken a ≤ length before
taken_fits store before after s t (Ok f) e own = frame_fits store before after s t f e own
taken_fits store before after s t (Err r) e own = zero-le

module _ (store before after : List ℕ) (l : length after ≡ length before) where
  pub wrote : (a : Result OutboundFrame ProducerError) → bytes_taken a ≤ length before → after ≡ written (told_frame store after a) before
      → Wrote 0 before after (bytes_taken a)
  wrote (Ok f) h e =
      let n = f.payload_len in
      let k : length (take n after) ≡ n = length-take-le n after (omega (arith, l)) in
      record {
        onward = omega arith;
        within = omega arith;
        same = l;
        front = refl;
        rest =
            ap (drop n) e
            ∙ drop_at (take n after) (drop (length (take n after)) before) n k
            ∙ ap (λ (j : ℕ). drop j before) k;
      }
  wrote (Err r) h e = rw e nothing
