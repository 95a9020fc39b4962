-- What the steps of settling leave of a state.
use Rattle.std.specs.Prelude.{◌≡◌, ℕ, ◌<◌, map, length, slice_index_or, Err, None, Ok, Option, Result, Some}
use Rattle.laws.specs.Lists.{without}
use Rattle.laws.specs.Ring.{ring}
use Rattle.types.specs.declared.error.ProducerError.TheVariants.{NotAnswerable}
use Rattle.types.specs.declared.entry.OpSend.{OpSend}
use Rattle.rows.specs.Entry.{decode_entry}
use Rattle.rows.specs.declared.entry.OpSendRow.{OpSendRow}
use Rattle.queue.specs.Sizes.{pending_size}
use Rattle.rules.specs.declared.rings.Ring.{Ring}
use Rattle.queue.specs.Queue.{with_pending}
use Rattle.queue.specs.Settle.{unmark}
use Rattle.upkeep.specs.Pending.{Key, located, cleared_all}
use Rattle.producer.specs.View.{view, slots_of}
use Rattle.types.specs.declared.error.ProducerError.{ProducerError}
use Rattle.producer.specs.State.{State}
use Rattle.producer.specs.declared.state.ProducerState.{ProducerState}

-- a state with the pending slots of another
abbrev pub with_slots : State → State → State
with_slots slots s =
    record {
      core = s.core;
      outbound = s.outbound;
      held = s.held;
      pending = slots.pending;
      pending_ids = slots.pending_ids;
      pending_marks = slots.pending_marks;
    }

-- with a shorter ring, the entry at a place is gone: those on one side of it have moved over
pub record GapClosed (place : ℕ) (shorter : Ring pending_size) (before after : State) : Type 0 where
  pub same : after ≡ with_slots after before
  pub moved : ring pending_size (slots_of after) shorter.head shorter.len
      ≡ without (ring pending_size (slots_of before) before.core.rings.pending.head before.core.rings.pending.len) place

-- no entry keeps the id in the index
abbrev pub unmarked : ℕ → State → State
unmarked id s =
    record {
      core = s.core;
      outbound = s.outbound;
      held = s.held;
      pending = s.pending;
      pending_ids = s.pending_ids;
      pending_marks = cleared_all id s.pending_ids s.pending_marks;
    }

-- the entry of an answer as the record that its row stands for
abbrev pub decode_entries : Result OpSendRow ProducerError → Result OpSend ProducerError
decode_entries (Ok row) = Ok (decode_entry row)
decode_entries (Err e) = Err e

abbrev pub decode_settled : {A : Type 0} → Result (OpSendRow × A) ProducerError → Result (OpSend × A) ProducerError
decode_settled (Ok (row, x)) = Ok (decode_entry row, x)
decode_settled (Err e) = Err e

-- what settling an id answers: the entry and the queue without it, or 11 and the very state
abbrev pub settles_at : ℕ → ProducerState → Result OpSend ProducerError → ProducerState → Option ℕ → Type 0
settles_at id s a t None = (a ≡ Err NotAnswerable) × (t ≡ s)
settles_at id s a t (Some i) =
    (op : OpSend) × (i < length (view s).pending)
    × (a ≡ Ok op)
    × (slice_index_or (view s).pending i op ≡ op)
    × (view t ≡ with_pending (without (map (unmark id) (view s).pending) i) (view s))

abbrev pub key_of : OpSend → Key
key_of op = (op.sequence_id.0, op.answerable)

abbrev pub Settles : ℕ → ProducerState → Result OpSend ProducerError → ProducerState → Type 0
Settles id s a t = settles_at id s a t (located id (map key_of (view s).pending))
