-- What the plan of a take answers. These mirror the code: what a reader must believe is in crate `queue`.
use Rattle.std.specs.Prelude.{ℕ, ◌-◌, Bool, Err, Ok, Option, Result}
use Rattle.laws.specs.Choice.{pick}
use Rattle.types.specs.declared.frame.FrameRecord.{FrameRecord}
use Rattle.rules.specs.declared.rings.Rings.{Rings}
use Rattle.rules.specs.Rings.{without_front}
use Rattle.frames.specs.declared.span.Span.{Span}
use Rattle.frames.specs.Answer.{answer_of}
use Rattle.frames.specs.Outbound.{frame_out}
use Rattle.frames.specs.After.{stays_of, kind_after}
use Rattle.types.specs.declared.types.ProducerHandle.{ProducerHandle}
use Rattle.plans.specs.declared.take.TakePlan.{TakePlan}
use Rattle.types.specs.declared.error.ProducerError.{ProducerError}
use Rattle.queue.specs.Sizes.{outbound_size, held_size}

abbrev pub rings_taken : Bool → ℕ → Rings → Rings
rings_taken stays count r =
    record r {
      outbound = pick stays r.outbound (without_front outbound_size 1 r.outbound);
      waiting = r.waiting - 1;
      held = without_front held_size count r.held;
    }

-- with the span of a frame that goes out
abbrev pub plan_of : ProducerHandle → Rings → FrameRecord → ℕ → Span → TakePlan
plan_of handle rings r count s =
    record {
      span = s;
      rings = rings_taken (stays_of r.kind) count rings;
      kind = kind_after r.kind;
      frame = frame_out handle r r.kind s.len;
    }

abbrev pub plan_with : ProducerHandle → Rings → FrameRecord → ℕ → Result Span ProducerError → Result TakePlan ProducerError
plan_with handle rings r count (Ok s) = Ok (plan_of handle rings r count s)
plan_with handle rings r count (Err e) = Err e

abbrev pub take_planned : ProducerHandle → Rings → FrameRecord → Option Span → ℕ → ℕ → Result TakePlan ProducerError
take_planned handle rings r s count room = plan_with handle rings r count (answer_of rings.outbound.len s room)
