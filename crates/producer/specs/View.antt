-- What a state stands for: the queue of document 01. Every value of the struct is a state.
use Rattle.std.specs.Prelude.{ℕ, not, List, [], ◌∷◌, ◌==◌}
use Rattle.laws.specs.Ring.{ring}
use Rattle.queue.specs.Sizes.{outbound_size, held_size, pending_size}
use Rattle.queue.specs.Queue.{Queue}
use Rattle.types.specs.declared.entry.OpSend.{OpSend}
use Rattle.types.specs.declared.entry.Publish.{Publish}
use Rattle.types.specs.declared.types.SequenceId.{SequenceId}
use Rattle.producer.specs.State.{State, state_of}
use Rattle.producer.specs.declared.state.ProducerState.{ProducerState}

-- a pending entry is put together from its id, its mark and what was sent
abbrev pub entry_of : SequenceId → ℕ → Publish → OpSend
entry_of id mark p = record { sequence_id = id; answerable = not (mark == 0); publish = p }

abbrev pub entries : List SequenceId → List ℕ → List Publish → List OpSend
entries [] ms ps = []
entries (i ∷ is) [] ps = []
entries (i ∷ is) (m ∷ ms) [] = []
entries (i ∷ is) (m ∷ ms) (p ∷ ps) = entry_of i m p ∷ entries is ms ps

-- the slots of the pending entries
abbrev pub slots_of : State → List OpSend
slots_of s = entries s.pending_ids s.pending_marks s.pending

unfoldable pub queue_of : State → Queue
queue_of s =
    let c = s.core in
    let r = c.rings in
    record {
      handle = c.handle;
      settings = c.settings;
      ids = c.ids;
      counters = c.counters;
      pending = ring pending_size (slots_of s) r.pending.head r.pending.len;
      out = record {
        frames = ring outbound_size s.outbound r.outbound.head r.outbound.len;
        waiting = r.waiting;
        held = ring held_size s.held r.held.head r.held.len;
        batch = c.batch;
      };
    }

abbrev pub view : ProducerState → Queue
view s = queue_of (state_of s)
