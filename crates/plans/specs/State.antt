-- The scalars of a producer, new and with another part. These mirror the code: what a reader must believe is in crate `queue`.
use Rattle.types.specs.Empty.{empty_batch}
use Rattle.queue.specs.Queue.{new_settings, new_ids, new_counters}
use Rattle.types.specs.declared.types.ProducerHandle.{ProducerHandle}
use Rattle.types.specs.declared.settings.ProducerSettings.{ProducerSettings}
use Rattle.types.specs.declared.stats.SequenceIds.{SequenceIds}
use Rattle.rules.specs.declared.rings.Rings.{Rings}
use Rattle.plans.specs.declared.state.Core.{Core}

abbrev pub new_rings : Rings
new_rings =
    record {
      outbound = record { head = 0; len = 0 };
      waiting = 0;
      held = record { head = 0; len = 0 };
      pending = record { head = 0; len = 0 };
    }

abbrev pub new_core : ProducerHandle → Core
new_core handle =
    record { handle = handle; settings = new_settings; ids = new_ids; counters = new_counters; batch = empty_batch; rings = new_rings }

abbrev pub core_settings : ProducerSettings → Core → Core
core_settings t c = record c { settings = t }

abbrev pub core_ids : SequenceIds → Core → Core
core_ids i c = record c { ids = i }

abbrev pub core_rings : Rings → Core → Core
core_rings r c = record c { rings = r }
