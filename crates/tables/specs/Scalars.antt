-- What the scalars are after a drain or a snapshot. These mirror the code.
use Rattle.std.specs.Prelude.{ℕ, false, None, Option, Some}
use Rattle.types.specs.Empty.{empty_batch}
use Rattle.types.specs.declared.settings.Setting.TheVariants.{BrokerReady}
use Rattle.queue.specs.Sizes.{pending_size}
use Rattle.queue.specs.Settings.{changed}
use Rattle.queue.specs.Tables.{failed}
use Rattle.plans.specs.State.{core_rings}
use Rattle.rules.specs.Rings.{without_front}
use Rattle.plans.specs.declared.state.Core.{Core}
use Rattle.rules.specs.declared.rings.Rings.{Rings}

abbrev pub core_without_front : ℕ → Core → Core
core_without_front n c =
    let r = c.rings in
    core_rings (record r { pending = without_front pending_size n r.pending }) c

abbrev pub rings_emptied : Rings → Rings
rings_emptied r =
    record {
      outbound = record { head = r.outbound.head; len = 0 };
      waiting = 0;
      held = record { head = r.held.head; len = 0 };
      pending = record { head = r.pending.head; len = 0 };
    }

abbrev pub core_emptied : Core → Core
core_emptied c = record c { batch = empty_batch; rings = rings_emptied c.rings }

abbrev pub core_after : Option ℕ → ℕ → Core → Core
core_after None n c = core_emptied c
core_after (Some time) n c = core_without_front n c

abbrev pub core_snapshot : ℕ → Core → Core
core_snapshot n c =
    record c {
      settings = changed (BrokerReady false) c.settings;
      counters = failed n c.counters;
      batch = empty_batch;
      rings = rings_emptied c.rings;
    }
