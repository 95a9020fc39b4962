-- The cases that document 01 marks with a star, and those of document 02's headroom (K6): what the definitions compute, and what the documents say.
use Rattle.std.specs.Prelude.{ℕ, ◌-◌, ◌^◌, true, List, [], ◌∷◌, ◌++◌, length, map, replicate, ℤ, pos, negsuc, None, Option, Some}
use Rattle.types.specs.Time.{deadline_with_clamp}
use Rattle.types.specs.Ids.{of_receipt}
use Rattle.types.specs.declared.batch.BatchContainer.{BatchContainer}
use Rattle.types.specs.declared.settings.Setting.TheVariants.{MaxMessageSize, MetadataReservation, BatchingEnabled, ChunkingEnabled}
use Rattle.types.specs.declared.stats.SequenceIds.{SequenceIds}
use Rattle.types.specs.declared.types.MessageId.{MessageId}
use Rattle.types.specs.declared.types.SequenceId.{SequenceId}
use Rattle.queue.specs.Queue.{Queue, Answer, done, new_queue}
use Rattle.queue.specs.Ids.{set_initial_sequence_id}
use Rattle.queue.specs.Batch.{no_message, no_uuid}
use Rattle.queue.specs.Send.{Sending, Decision, chunk_size, total_chunks, emitted, queue_send}
use Rattle.queue.specs.Frame.{Frame}
use Rattle.queue.specs.Run.{Call, send, flush, take, initial_id, set, after, taken}

pub data Value : Type 0 where
  number : ℕ → Value
  numbers : List ℕ → Value
  message_id : MessageId → Value
  sequence_ids : SequenceIds → Value
  answer : Answer Decision → Value
  -- of frames: payloads and their lengths, sizes in the metadata, lowest and highest id
  payloads : List (List ℕ) → Value
  lengths : List ℕ → Value
  sizes : List (Option ℕ) → Value
  id_ranges : List (SequenceId × Option SequenceId) → Value

pub record Row : Type 0 where
  pub computed : Value
  pub expected : Value

abbrev row : Value → Value → Row
row computed expected = record { computed = computed; expected = expected }

-- (ledger, entry, partition, batch index, batch size)
abbrev id : ℕ → ℕ → ℤ → ℤ → ℤ → Value
id ledger entry partition index size =
    message_id
    (record { ledger_id = ledger; entry_id = entry; partition = partition; batch_index = index; batch_size = size })

abbrev sequence_id : ℕ → SequenceId
sequence_id n = record { 0 = n }

-- (next id, pushed number, published number)
abbrev ids : ℕ → ℤ → ℤ → Value
ids next pushed published =
    sequence_ids
    (record { next_sequence_id = sequence_id next; last_sequence_id_pushed = pushed; last_sequence_id_published = published })

abbrev minus_one : ℤ
minus_one = negsuc 0

-- ── calls on a new producer ──

abbrev fresh : Queue
fresh = new_queue (record { 0 = 7 })

-- a send of the first bytes of the store, with nothing else set
abbrev send_of : ℕ → Sending
send_of len =
    record {
      message = record no_message { payload = record { start = 0; len = len }; num_messages = pos 1 };
      reserved = 0;
      uuid = no_uuid;
      publish_time = 0;
      now = 0;
    }

-- the frames that calls make: three takes into long enough buffers, one more than any case has frames
abbrev frames : List ℕ → List Call → List Frame
frames store calls = taken store fresh (calls ++ replicate 3 (take 8192))

-- the message `quote`, in a store of its bytes
abbrev quote : List ℕ
quote = 0x71 ∷ 0x75 ∷ 0x6f ∷ 0x74 ∷ 0x65 ∷ []

-- n sends of `quote` that join, under ids from this one on: the batch that is then open, and the frames once it is flushed
module _ (first n : ℕ) where
  abbrev joining : List Call
  joining = initial_id first ∷ set (BatchingEnabled true) ∷ replicate n (send (send_of 5))

  abbrev open_batch : BatchContainer
  open_batch = (after quote fresh joining).out.batch

  abbrev batch_frames : List Frame
  batch_frames = frames quote (joining ++ flush 0 ∷ [])

-- a send of `len` bytes under a limit, with chunking on and after other settings: its answer, and the frames
module _ (before : List Call) (limit len : ℕ) where
  abbrev store : List ℕ
  store = replicate len 0

  abbrev chunking : List Call
  chunking = before ++ set (ChunkingEnabled true) ∷ set (MaxMessageSize limit) ∷ []

  abbrev chunk_answer : Answer Decision
  chunk_answer = (queue_send len (send_of len) (after store fresh chunking)).1

  abbrev chunk_frames : List Frame
  chunk_frames = frames store (chunking ++ send (send_of len) ∷ [])

abbrev headroom : ℕ → List Call
headroom n = set (MetadataReservation n) ∷ []

-- what a chunk may have under each limit
abbrev sizes_at : ℕ → List ℕ → Value
sizes_at n limits = numbers (map (chunk_size n) limits)

-- ── what is seen of them ──

abbrev payloads_of : List Frame → Value
payloads_of fs = payloads (map (λ f. f.payload) fs)

abbrev lengths_of : List Frame → Value
lengths_of fs = lengths (map (λ f. length f.payload) fs)

abbrev uncompressed_sizes : List Frame → Value
uncompressed_sizes fs = sizes (map (λ f. f.metadata.uncompressed_size) fs)

abbrev total_sizes : List Frame → Value
total_sizes fs = sizes (map (λ f. f.metadata.total_chunk_msg_size) fs)

abbrev batch_ids : BatchContainer → Value
batch_ids b = id_ranges ((b.lowest_sequence_id, Some b.highest_sequence_id) ∷ [])

abbrev command_ids : List Frame → Value
command_ids fs = id_ranges (map (λ f. (f.command.sequence_id, f.command.highest_sequence_id)) fs)

abbrev metadata_ids : List Frame → Value
metadata_ids fs = id_ranges (map (λ f. (f.metadata.sequence_id, f.metadata.highest_sequence_id)) fs)

abbrev pub rows : List Row
rows =
    -- T1
    row (number (deadline_with_clamp 5 10)) (number 15)
    -- T2
    ∷ row (number (deadline_with_clamp (2 ^ 64 - 3600001) (2 ^ 64 - 1))) (number (2 ^ 64 - 1))
    -- T3
    ∷ row (number (deadline_with_clamp (2 ^ 64 - 1) 1)) (number (2 ^ 64 - 1))
    -- I1
    ∷ row
    (message_id
    (of_receipt
    (Some
    (record { ledger_id = 7; entry_id = 9; partition = None; batch_index = None; batch_size = None }))))
    (id 7 9 minus_one minus_one minus_one)
    -- I2
    ∷ row (message_id (of_receipt None)) (id 0 0 minus_one minus_one (pos 0))
    -- S1
    ∷ row (sequence_ids (set_initial_sequence_id 1 fresh).ids) (ids 1 (pos 0) (pos 0))
    -- S2: -2^63
    ∷ row
    (sequence_ids (set_initial_sequence_id (2 ^ 63) fresh).ids)
    (ids (2 ^ 63) (negsuc (2 ^ 63 - 1)) (negsuc (2 ^ 63 - 1)))
    -- S3: -2
    ∷ row (sequence_ids (set_initial_sequence_id (2 ^ 64 - 1) fresh).ids) (ids (2 ^ 64 - 1) (negsuc 1) (negsuc 1))
    -- B1: the frame's bytes, and the size in its metadata
    ∷ row (payloads_of (batch_frames 0 1)) (payloads ((0x00 ∷ 0x00 ∷ 0x00 ∷ 0x02 ∷ 0x18 ∷ 0x05 ∷ quote) ∷ []))
    ∷ row (uncompressed_sizes (batch_frames 0 1)) (sizes (Some 5 ∷ []))
    -- B2: the batch has both ids, its frame no highest one, in command and metadata
    ∷ row (batch_ids (open_batch (2 ^ 64 - 1) 2)) (id_ranges ((sequence_id (2 ^ 64 - 1), Some (sequence_id 0)) ∷ []))
    ∷ row (command_ids (batch_frames (2 ^ 64 - 1) 2)) (id_ranges ((sequence_id (2 ^ 64 - 1), None) ∷ []))
    ∷ row (metadata_ids (batch_frames (2 ^ 64 - 1) 2)) (id_ranges ((sequence_id (2 ^ 64 - 1), None) ∷ []))
    -- C1: the send's answer, and its chunks
    ∷ row (answer (chunk_answer [] 4096 4097)) (answer (done (emitted 2)))
    ∷ row (lengths_of (chunk_frames [] 4096 4097)) (lengths (4096 ∷ 1 ∷ []))
    -- C2
    ∷ row (answer (chunk_answer [] 4097 4098)) (answer (done (emitted 2)))
    ∷ row (lengths_of (chunk_frames [] 4097 4098)) (lengths (3073 ∷ 1025 ∷ []))
    -- C3: one chunk, empty, and its total size
    ∷ row (answer (chunk_answer [] 0 3)) (answer (done (emitted 1)))
    ∷ row (lengths_of (chunk_frames [] 0 3)) (lengths (0 ∷ []))
    ∷ row (total_sizes (chunk_frames [] 0 3)) (sizes (Some 3 ∷ []))
    -- K6: on both sides of four times the headroom, and at a limit of 0
    ∷ row (sizes_at 0 (0 ∷ 1 ∷ 5 ∷ [])) (numbers (0 ∷ 1 ∷ 5 ∷ []))
    ∷ row (sizes_at 1 (0 ∷ 4 ∷ 5 ∷ [])) (numbers (0 ∷ 4 ∷ 4 ∷ []))
    ∷ row (sizes_at 1024 (0 ∷ 4096 ∷ 4097 ∷ [])) (numbers (0 ∷ 4096 ∷ 3073 ∷ []))
    ∷ row (sizes_at 65536 (0 ∷ 262144 ∷ 262145 ∷ [])) (numbers (0 ∷ 262144 ∷ 196609 ∷ []))
    -- K6: sends of 6 bytes, and one that a headroom of 1,025 no longer makes smaller than the limit
    ∷ row (lengths_of (chunk_frames (headroom 0) 5 6)) (lengths (5 ∷ 1 ∷ []))
    ∷ row (lengths_of (chunk_frames (headroom 1) 4 6)) (lengths (4 ∷ 2 ∷ []))
    ∷ row (lengths_of (chunk_frames (headroom 1) 5 6)) (lengths (4 ∷ 2 ∷ []))
    ∷ row (lengths_of (chunk_frames (headroom 1025) 4097 4098)) (lengths (4097 ∷ 1 ∷ []))
    -- K6: the longest payload under a limit of 262,145
    ∷ row (number (total_chunks 16777216 (chunk_size 65536 262145))) (number 86)
    ∷ row (number (total_chunks 16777216 (chunk_size 1024 262145))) (number 65)
    ∷ []
