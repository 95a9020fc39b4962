-- A state with the scalars of a new producer stands for a new queue, whatever its slots hold. Assumes nothing.
use Rattle.std.proofs.Common.{◌≡◌, ap, ◌∙◌}
use Rattle.laws.proofs.Rings.{ring_none}
use Rattle.types.specs.Empty.{empty_batch}
use Rattle.types.specs.declared.types.ProducerHandle.{ProducerHandle}
use Rattle.queue.specs.Queue.{new_queue, new_settings, new_ids, new_counters}
use Rattle.queue.specs.Sizes.{outbound_size, held_size, pending_size}
use Rattle.plans.specs.State.{new_core}
use Rattle.plans.specs.declared.state.Core.{Core}
use Rattle.producer.specs.View.{queue_of, entries}
use Rattle.producer.specs.State.{State}
use Rattle.producer.proofs.Scalars.{with_core}

pub fresh : (s : State) (handle : ProducerHandle) → s.core ≡ new_core handle → queue_of s ≡ new_queue handle
unfolding queue_of
fresh s handle e =
    ap (λ (c : Core). queue_of (with_core c s)) e
    ∙ (λ j.
    record {
      handle = handle;
      settings = new_settings;
      ids = new_ids;
      counters = new_counters;
      pending = ring_none pending_size (entries s.pending_ids s.pending_marks s.pending) 0 j;
      out = record {
        frames = ring_none outbound_size s.outbound 0 j;
        waiting = 0;
        held = ring_none held_size s.held 0 j;
        batch = empty_batch;
      };
    })
