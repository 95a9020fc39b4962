-- Which call made which frames, and how a message is cut into chunks (document 01, 'sends'; demand 3).
use Rattle.std.specs.Prelude.{ℕ, ◌+◌, ◌≤◌, ◌≡◌, true, false, List, [], ◌∷◌, ◌++◌, length, None, Some}
use Rattle.types.specs.Values.{part_of}
use Rattle.types.specs.declared.settings.ProducerSettings.{ProducerSettings}
use Rattle.types.specs.declared.types.ProducerHandle.{ProducerHandle}
use Rattle.types.specs.declared.types.SequenceId.{SequenceId}
use Rattle.wire.specs.Batch.{All}
use Rattle.queue.specs.Queue.{Queue, Answer, done, new_queue}
use Rattle.queue.specs.Send.{Sending, chunk_size_of, emitted, large}
use Rattle.queue.specs.Frame.{Frame}
use Rattle.queue.specs.Run.{Call, send, Gives, step, after, frame_of, taken, Waiting, AllRanged}
use Rattle.queue.specs.Order.{AllCovered}

-- chunk k and those after it, of n, of one sequence id, none longer than `most`
abbrev pub Numbered : SequenceId → ℕ → ℕ → ℕ → List Frame → Type 0
Numbered id most n k [] = k ≡ n
Numbered id most n k (f ∷ fs) =
    (f.metadata.sequence_id ≡ id) × (f.metadata.chunk_id ≡ Some k) × (f.metadata.num_chunks ≡ Some n) × (length f.payload ≤ most)
    × Numbered id most n (k + 1) fs

-- the payloads joined
abbrev pub payloads : List Frame → List ℕ
payloads [] = []
payloads (f ∷ fs) = f.payload ++ payloads fs

-- all the chunks of a payload, from chunk 0 on
pub record Chunks (most : ℕ) (payload : List ℕ) (fs : List Frame) : Type 0 where
  pub id : SequenceId
  pub count : ℕ
  pub numbered : Numbered id most count 0 fs
  pub joins : payloads fs ≡ payload

-- a message's only frame: its whole payload, and neither message count nor chunk id in the metadata ('sends')
pub record Whole (payload : List ℕ) (f : Frame) : Type 0 where
  pub uncounted : f.metadata.num_messages_in_batch ≡ None
  pub unchunked : f.metadata.chunk_id ≡ None
  pub payload_is : f.payload ≡ payload

-- a frame that a flush made: it bears a message count, and no chunk id ('batch')
pub record OfBatch (f : Frame) : Type 0 where
  pub count : ℕ
  pub counted : f.metadata.num_messages_in_batch ≡ Some count
  pub unchunked : f.metadata.chunk_id ≡ None

-- anything but a send that answers `Emit`: another call, a send that is refused, or one that answers `Batched`
abbrev pub EmitsNone : (c : Call) → Answer (Gives c) → Type 0
EmitsNone (send a) (done (emitted n)) = ⊥
EmitsNone c r = Unit {0}

-- the frames of the message that a call sends, by its answer and by the settings that it finds ('sends'); `Emit` answers how many
pub data Cuts (store : List ℕ) (t : ProducerSettings) : (c : Call) → Answer (Gives c) → List Frame → Type 0 where
  -- 'otherwise nothing changes on refusal', but that 6 comes after the flushes; a message that joined is in its batch's frame ('batch')
  none_cut : {c : Call} {r : Answer (Gives c)} → EmitsNone c r → Cuts store t c r []
  -- 'payload equal to `max_message_size` is not too large': a single frame
  not_cut : {a : Sending} {f : Frame} → large t a.message ≡ false → Whole (part_of store a.message.payload) f
      → Cuts store t (send a) (done (emitted 1)) (f ∷ [])
  -- above it: 'with chunking on it joins the batch if it can .. else it is chunked', by the headroom set at the send (document 02, K6); no size
  -- that it gives is over the limit (`WithinLimit`)
  one_cut : {a : Sending} {fs : List Frame} → large t a.message ≡ true → t.switches.chunking_enabled ≡ true
      → Chunks (chunk_size_of t.limits) (part_of store a.message.payload) fs
      → Cuts store t (send a) (done (emitted (length fs))) fs

-- the frames of a run, call by call: each call appends the batch frames that it flushes, and then those of the message that it sends
pub data CallByCall (store : List ℕ) : Queue → List Call → List Frame → Type 0 where
  no_call : {q : Queue} → CallByCall store q [] []
  one_call : {q : Queue} {c : Call} {cs : List Call} {fs : List Frame} (flushed own : List Frame)
      → All OfBatch flushed
      → Cuts store q.settings c (step store c q).1 own
      -- as many as wait more after it, the one that a take hands out counted among them
      → q.out.waiting + length (flushed ++ own) ≡ (step store c q).0.out.waiting + length (frame_of c (step store c q).1)
      → CallByCall store (step store c q).0 cs fs
      → CallByCall store q (c ∷ cs) (flushed ++ (own ++ fs))

-- so the frames taken, and then those waiting, are made
abbrev pub ChunkRule : Type 0
ChunkRule =
    (store : List ℕ) (handle : ProducerHandle) (cs : List Call) (waiting : List Frame)
    → AllRanged cs
    → AllCovered store (new_queue handle) cs
    → Waiting store (after store (new_queue handle) cs) waiting
    → CallByCall store (new_queue handle) cs (taken store (new_queue handle) cs ++ waiting)
