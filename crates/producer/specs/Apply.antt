-- The stores of a plan, one by one. These mirror the code.
use Rattle.std.specs.Prelude.{List, set, Option, Some, None}
use Rattle.std.specs.Int.{from_bool}
use Rattle.types.specs.declared.entry.OpSend.{OpSend}
use Rattle.types.specs.declared.frame.FrameRecord.{FrameRecord}
use Rattle.types.specs.declared.message.SingleMessage.{SingleMessage}
use Rattle.plans.specs.Send.{SendDelta}
use Rattle.plans.specs.declared.state.Core.{Core}
use Rattle.plans.specs.declared.delta.Put.{Put}
use Rattle.producer.specs.State.{State}

abbrev pub store_core : Core → State → State
store_core c s = record s { core = c }

-- a part of a record goes to the record's place, if there is one
abbrev pub stored : {A B : Type 0} → (A → B) → Option (Put A) → List B → List B
stored part None l = l
stored part (Some p) l = set l p.at (part p.value)

abbrev pub store_frame : Option (Put FrameRecord) → State → State
store_frame p s = record s { outbound = stored (λ r. r) p s.outbound }

-- the three parts of an entry go to one place
abbrev pub store_entry : Option (Put OpSend) → State → State
store_entry p s =
    record s {
      pending = stored (λ op. op.publish) p s.pending;
      pending_ids = stored (λ op. op.sequence_id) p s.pending_ids;
      pending_marks = stored (λ op. from_bool op.answerable) p s.pending_marks;
    }

abbrev pub store_held : Option (Put SingleMessage) → State → State
store_held p s = record s { held = stored (λ m. m) p s.held }

-- all of them
abbrev pub applied : SendDelta → State → State
applied d s = store_held d.held (store_entry d.entry (store_frame d.second (store_frame d.first (store_core d.core s))))
