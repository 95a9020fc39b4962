-- What the plans of ids and deadlines answer.
use Rattle.std.specs.Prelude.{ℕ, Option}
use Rattle.upkeep.specs.Deadline.{maybe_after, unless_none}
use Rattle.upkeep.specs.Stats.{initial_ids}
use Rattle.plans.specs.declared.state.Core.{Core}
use Rattle.plans.specs.State.{core_ids}

abbrev pub send_deadline_of : Core → ℕ → Option ℕ
send_deadline_of c enqueuedAt = unless_none c.rings.pending.len (maybe_after c.settings.delays.send_timeout enqueuedAt)

abbrev pub batch_deadline_of : Core → Option ℕ
batch_deadline_of c = unless_none c.batch.len (maybe_after c.settings.delays.batching_max_publish_delay c.batch.first_added_at)

abbrev pub with_initial_id : ℕ → Core → Core
with_initial_id next c = core_ids (initial_ids next c.ids) c
