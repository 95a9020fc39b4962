-- Document 01, 'sends': taking the front frame, which writes its payload into a lent buffer.
use Rattle.std.specs.Prelude.{ℕ, ◌+◌, ◌-◌, List, [], ◌∷◌, ◌++◌, length, drop, ltb}
use Rattle.laws.specs.Choice.{pick}
use Rattle.types.specs.declared.frame.ChunkedMessageContext.{ChunkedMessageContext}
use Rattle.types.specs.declared.frame.FrameRecord.{FrameRecord}
use Rattle.types.specs.declared.frame.FrameKind.{FrameKind}
use Rattle.types.specs.declared.frame.FrameKind.TheVariants.{Single, Batch, Chunked}
use Rattle.queue.specs.Queue.{Queue, Outgoing, Outcome, Answer, refused, done, refuse, with_out}
use Rattle.queue.specs.Frame.{Frame, first_frame, frame_in}

abbrev pub with_kind : FrameKind → FrameRecord → FrameRecord
with_kind k r =
    record {
      sequence_id = r.sequence_id;
      publish_time = r.publish_time;
      producer_name = r.producer_name;
      uuid = r.uuid;
      message = r.message;
      kind = k;
    }

abbrev pub next_chunk : ChunkedMessageContext → ChunkedMessageContext
next_chunk c = record { total_chunks = c.total_chunks; next_chunk = c.next_chunk + 1; max_chunk_size = c.max_chunk_size }

-- the records once the first frame of the first is gone: a chunked message stays until its last chunk is taken
abbrev pub rest_of : FrameRecord → FrameKind → List FrameRecord → List FrameRecord
rest_of r Single rs = rs
rest_of r (Batch b) rs = rs
rest_of r (Chunked c) rs = pick (ltb (c.next_chunk + 1) c.total_chunks) (with_kind (Chunked (next_chunk c)) r ∷ rs) rs

-- the held messages that go with it
abbrev pub holds : FrameKind → ℕ
holds Single = 0
holds (Batch b) = b.num_messages
holds (Chunked c) = 0

abbrev pub after_take : FrameRecord → List FrameRecord → Outgoing → Outgoing
after_take r rs o =
    record {
      frames = rest_of r r.kind rs;
      waiting = o.waiting - 1;
      held = drop (holds r.kind) o.held;
      batch = o.batch;
    }

-- 10, no frame waiting; 2, a part of the frame outside the store lent; 9, the buffer shorter than the payload
abbrev pub take_from : List ℕ → ℕ → Queue → List FrameRecord → Outcome Frame
take_from store room q [] = refuse 10 q
take_from store room q (r ∷ rs) =
    let f = first_frame store q.handle r r.kind q.out.held in
    pick (frame_in (length store) r r.kind q.out.held)
    (pick (ltb room (length f.payload)) (refuse 9 q) (with_out (after_take r rs q.out) q, done f))
    (refuse 2 q)

-- `next_outbound_frame` with this store and a buffer of `room` bytes
unfoldable pub next_outbound_frame : List ℕ → ℕ → Queue → Outcome Frame
next_outbound_frame store room q = take_from store room q q.out.frames

-- what the buffer holds then: the payload and the rest as it was, or all of it as it was
abbrev pub written : Answer Frame → List ℕ → List ℕ
written (refused n values) buffer = buffer
written (done f) buffer = f.payload ++ drop (length f.payload) buffer
