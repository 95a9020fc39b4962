-- What is left of the front record.
use Rattle.std.specs.Prelude.{◌+◌, Bool, false, ltb}
use Rattle.laws.specs.Choice.{pick}
use Rattle.queue.specs.Take.{next_chunk}
use Rattle.types.specs.declared.frame.ChunkedMessageContext.{ChunkedMessageContext}
use Rattle.types.specs.declared.frame.FrameKind.{FrameKind}
use Rattle.types.specs.declared.frame.FrameKind.TheVariants.{Single, Batch, Chunked}

abbrev pub has_next : ChunkedMessageContext → Bool
has_next c = ltb (c.next_chunk + 1) c.total_chunks

abbrev pub stays_of : FrameKind → Bool
stays_of Single = false
stays_of (Batch b) = false
stays_of (Chunked c) = has_next c

-- which frame of the record is next then
abbrev pub kind_after : FrameKind → FrameKind
kind_after Single = Single
kind_after (Batch b) = Batch b
kind_after (Chunked c) = pick (has_next c) (Chunked (next_chunk c)) (Chunked c)
