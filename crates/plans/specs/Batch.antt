-- What the plans of a flush answer.
use Rattle.std.specs.Prelude.{ℕ, ◌+◌, Bool, nat_lt, Err, None, Ok, Result}
use Rattle.laws.specs.Choice.{pick}
use Rattle.types.specs.Empty.{empty_batch}
use Rattle.types.specs.declared.error.ProducerError.TheVariants.{OutboundFull}
use Rattle.types.specs.declared.frame.FrameRecord.{FrameRecord}
use Rattle.queue.specs.Sizes.{outbound_size}
use Rattle.queue.specs.Batch.{batch_record, is_empty}
use Rattle.rules.specs.Batch.{makes_frame}
use Rattle.plans.specs.declared.state.Core.{Core}
use Rattle.plans.specs.declared.delta.Pushed.{Pushed}
use Rattle.plans.specs.declared.delta.FlushDelta.{FlushDelta}
use Rattle.plans.specs.Delta.{core_batch, counted_core, pushed}
use Rattle.types.specs.declared.error.ProducerError.{ProducerError}

-- the open batch becomes a frame
abbrev pub flushed_core : ℕ → Core → Pushed FrameRecord
flushed_core publish_time c =
    let p = pushed (batch_record c.settings publish_time c.batch) 1 (counted_core c.batch.len c.batch.encoded_len c) in
    record { core = core_batch empty_batch p.core; put = p.put }

abbrev pub unpushed : Core → Pushed FrameRecord
unpushed c = record { core = c; put = None }

abbrev pub flushed_if : Bool → ℕ → Core → Pushed FrameRecord
flushed_if asked publish_time c = pick asked (flushed_core publish_time c) (unpushed c)

-- count 0 for an empty batch or a closed producer; 4 only where a frame would be made
abbrev pub flush_answer : Core → Result ℕ ProducerError
flush_answer c =
    pick (is_empty c.batch) (Ok 0)
    (pick c.settings.switches.closed (Ok 0)
    (pick (nat_lt outbound_size (c.rings.waiting + 1)) (Err OutboundFull) (Ok 1)))

abbrev pub flush_of : Result ℕ ProducerError → ℕ → Core → FlushDelta
flush_of answer publish_time c =
    let p = flushed_if (makes_frame answer) publish_time c in
    record { answer = answer; core = p.core; frame = p.put }

abbrev pub flush_planned : ℕ → Core → FlushDelta
flush_planned publish_time c = flush_of (flush_answer c) publish_time c
