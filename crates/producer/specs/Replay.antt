-- What the code reads of the waiting frames for a replay.
use Rattle.types.specs.declared.frame.FrameRecord.{FrameRecord}
use Rattle.types.specs.declared.types.SequenceId.{SequenceId}

-- the id that a waiting frame bears; of a batch its lowest
abbrev pub frame_id : FrameRecord → SequenceId
frame_id r = r.sequence_id
