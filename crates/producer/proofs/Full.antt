-- The state's arrays have as many elements as its type says, and a store keeps that. Assumes nothing.
use Rattle.std.specs.Prelude.{Option}
use Rattle.std.proofs.Common.{◌≡◌, length, ◌∙◌}
use Rattle.plans.specs.declared.state.Core.{Core}
use Rattle.plans.specs.declared.delta.Put.{Put}
use Rattle.types.specs.declared.entry.OpSend.{OpSend}
use Rattle.types.specs.declared.frame.FrameRecord.{FrameRecord}
use Rattle.types.specs.declared.message.SingleMessage.{SingleMessage}
use Rattle.producer.specs.Apply.{store_core, store_frame, store_entry, store_held}
use Rattle.producer.specs.View.{slots_of}
use Rattle.producer.specs.State.{State}
use Rattle.producer.proofs.Entries.{length_entries}
use Rattle.producer.proofs.Stores.{length_stored}
use Rattle.queue.specs.Sizes.{outbound_size, held_size, pending_size}

pub record Full (s : State) : Type 0 where
  pub outbound : length s.outbound ≡ outbound_size
  pub held : length s.held ≡ held_size
  pub pending : length s.pending ≡ pending_size
  pub ids : length s.pending_ids ≡ pending_size
  pub marks : length s.pending_marks ≡ pending_size

pub slots : (s : State) → Full s → length (slots_of s) ≡ pending_size
slots s f = length_entries pending_size s.pending_ids s.pending_marks s.pending f.ids f.marks f.pending

module _ (s : State) (f : Full s) where
  pub full_core : (c : Core) → Full (store_core c s)
  full_core c = record { outbound = f.outbound; held = f.held; pending = f.pending; ids = f.ids; marks = f.marks }

  pub full_frame : (p : Option (Put FrameRecord)) → Full (store_frame p s)
  full_frame p =
      record {
        outbound = length_stored _ p s.outbound ∙ f.outbound;
        held = f.held;
        pending = f.pending;
        ids = f.ids;
        marks = f.marks;
      }

  pub full_entry : (p : Option (Put OpSend)) → Full (store_entry p s)
  full_entry p =
      record {
        outbound = f.outbound;
        held = f.held;
        pending = length_stored _ p s.pending ∙ f.pending;
        ids = length_stored _ p s.pending_ids ∙ f.ids;
        marks = length_stored _ p s.pending_marks ∙ f.marks;
      }

  pub full_held : (p : Option (Put SingleMessage)) → Full (store_held p s)
  full_held p =
      record {
        outbound = f.outbound;
        held = length_stored _ p s.held ∙ f.held;
        pending = f.pending;
        ids = f.ids;
        marks = f.marks;
      }
