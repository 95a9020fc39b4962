-- What a producer's rows stand for: its scalars, and its rings as records.
use Rattle.std.specs.Prelude.{ℕ, List, map}
use Rattle.types.specs.declared.entry.Publish.{Publish}
use Rattle.types.specs.declared.frame.FrameRecord.{FrameRecord}
use Rattle.types.specs.declared.message.SingleMessage.{SingleMessage}
use Rattle.types.specs.declared.types.SequenceId.{SequenceId}
use Rattle.rows.specs.Batch.{decode_batch}
use Rattle.rows.specs.Entry.{decode_publish}
use Rattle.rows.specs.Frame.{decode_frame}
use Rattle.rows.specs.Message.{decode_single}
use Rattle.rows.specs.Rings.{decode_rings}
use Rattle.rows.specs.Settings.{decode_settings}
use Rattle.plans.specs.declared.state.Core.{Core}
use Rattle.producer.specs.declared.state.CoreRow.{CoreRow}
use Rattle.producer.specs.declared.state.ProducerState.{ProducerState}

pub record State : Type 0 where
  pub core : Core
  pub outbound : List FrameRecord
  pub held : List SingleMessage
  pub pending : List Publish
  pub pending_ids : List SequenceId
  pub pending_marks : List ℕ

abbrev pub decode_core : CoreRow → Core
decode_core r =
    record {
      handle = r.handle;
      settings = decode_settings r.settings;
      ids = r.ids;
      counters = r.counters;
      batch = decode_batch r.batch;
      rings = decode_rings r.rings;
    }

-- any rows are a state
abbrev pub state_of : ProducerState → State
state_of s =
    record {
      core = decode_core s.core;
      outbound = map decode_frame s.outbound;
      held = map decode_single s.held;
      pending = map decode_publish s.pending;
      pending_ids = s.pending_ids;
      pending_marks = s.pending_marks;
    }
