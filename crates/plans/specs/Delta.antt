-- What one push does to the scalars, and what it stores. These mirror the code.
use Rattle.std.specs.Prelude.{ℕ, true, Option, Some, None}
use Rattle.laws.specs.Numbers.{add_sat}
use Rattle.types.specs.declared.batch.BatchContainer.{BatchContainer}
use Rattle.types.specs.declared.entry.OpSend.{OpSend}
use Rattle.types.specs.declared.entry.Publish.{Publish}
use Rattle.types.specs.declared.frame.FrameRecord.{FrameRecord}
use Rattle.types.specs.declared.message.SingleMessage.{SingleMessage}
use Rattle.queue.specs.Sizes.{outbound_size, held_size, pending_size}
use Rattle.queue.specs.Batch.{counted}
use Rattle.queue.specs.Ids.{assigned}
use Rattle.rules.specs.Rings.{place_behind, longer_behind}
use Rattle.plans.specs.declared.state.Core.{Core}
use Rattle.plans.specs.declared.delta.Put.{Put}
use Rattle.plans.specs.declared.delta.Pushed.{Pushed}

-- nothing is stored where there is no place
abbrev pub put_at : {A : Type 0} → Option ℕ → A → Option (Put A)
put_at None x = None
put_at (Some i) x = Some (record { at = i; value = x })

-- ── the scalars with another part ──

abbrev pub core_batch : BatchContainer → Core → Core
core_batch b c = record c { batch = b }

abbrev pub counted_core : ℕ → ℕ → Core → Core
counted_core messages bytes c = record c { counters = counted messages bytes c.counters }

-- ── one push ──

-- a record of n frames
abbrev pub pushed : FrameRecord → ℕ → Core → Pushed FrameRecord
pushed frame n c =
    let r = c.rings in
    record {
      core = record c { rings = record r { outbound = longer_behind outbound_size r.outbound; waiting = add_sat r.waiting n } };
      put = put_at (place_behind outbound_size r.outbound) frame;
    }

-- an answerable entry under the next id
abbrev pub accepted : Publish → Core → Pushed OpSend
accepted p c =
    let r = c.rings in
    record {
      core = record c { ids = assigned c.ids; rings = record r { pending = longer_behind pending_size r.pending } };
      put = put_at (place_behind pending_size r.pending)
          (record { sequence_id = c.ids.next_sequence_id; answerable = true; publish = p });
    }

-- a message more among those held
abbrev pub held : SingleMessage → Core → Pushed SingleMessage
held m c =
    let r = c.rings in
    record {
      core = record c { rings = record r { held = longer_behind held_size r.held } };
      put = put_at (place_behind held_size r.held) m;
    }
