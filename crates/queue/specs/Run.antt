-- Calls on one producer, one after the other, each with the queue that the last one returned (document 01, 'How demand 3 is read').
use Rattle.std.specs.Prelude.{ℕ, ◌<◌, ◌^◌, ◌≡◌, Bool, List, [], ◌∷◌, ◌++◌, length, ℤ, None, Option, Some}
use Rattle.types.specs.declared.entry.OpSend.{OpSend}
use Rattle.types.specs.declared.settings.Setting.{Setting}
use Rattle.types.specs.declared.stats.ProducerStats.{ProducerStats}
use Rattle.types.specs.declared.types.MessageId.{MessageId}
use Rattle.queue.specs.Queue.{Queue, Answer, refused, done, Outcome}
use Rattle.queue.specs.Settings as settings
use Rattle.queue.specs.Ids.{set_initial_sequence_id, next_send_deadline, next_batch_deadline, batch_deadline_elapsed}
use Rattle.queue.specs.Batch.{flush_batch}
use Rattle.queue.specs.Send.{Sending, Decision, queue_send}
use Rattle.queue.specs.Frame.{Frame}
use Rattle.queue.specs.Take.{next_outbound_frame}
use Rattle.queue.specs.Settle.{Handed, apply_receipt, apply_send_error, drain_timed_out_sends}
use Rattle.queue.specs.Tables.{drain_pending_sends, snapshot_pending_sends, replay_snapshots, replay_pending_outbound}
use Rattle.queue.specs.Queries.{may_add, outbound_len, metadata_reservation, stats}
use Rattle.queue.specs.Message.{Message, message_of}
use Rattle.types.specs.declared.types.MessageIdData.{MessageIdData}

-- ── the calls ──

-- what is asked and changes nothing
pub data Query : Type 0 where
  send_deadline : Query
  batch_deadline : Query
  -- at a time
  batch_elapsed : ℕ → Query
  -- for a payload length and a message count
  can_add : ℕ → ℤ → Query
  waiting_count : Query
  headroom : Query
  statistics : Query

pub data Call : Type 0 where
  send : Sending → Call
  -- with a publish time
  flush : ℕ → Call
  -- into a buffer of so many bytes
  take : ℕ → Call
  -- of a sequence id
  receipt : ℕ → Option MessageIdData → Call
  -- of a sequence id, with a code
  send_error : ℕ → ℤ → Call
  -- at a time, into a table of so many entries
  timeouts : ℕ → ℕ → Call
  initial_id : ℕ → Call
  set : Setting → Call
  set_name : List ℕ → Call
  close : Call
  query : Query → Call
  -- into a table of so many entries
  drain : ℕ → Call
  -- into a dropped and a replay table
  snapshot : ℕ → ℕ → Call
  -- of a table of entries
  replay : List OpSend → Call
  -- of the pending entries
  resend : Call

-- what a query answers
abbrev pub Asked : Query → Type 0
Asked send_deadline = Option ℕ
Asked batch_deadline = Option ℕ
Asked (batch_elapsed now) = Bool
Asked (can_add size num_messages) = Bool
Asked waiting_count = ℕ
Asked headroom = ℕ
Asked statistics = ProducerStats

abbrev pub ask : (k : Query) → Queue → Asked k
ask send_deadline q = next_send_deadline q
ask batch_deadline q = next_batch_deadline q
ask (batch_elapsed now) q = batch_deadline_elapsed now q
ask (can_add size num_messages) q = may_add size num_messages q
ask waiting_count q = outbound_len q
ask headroom q = metadata_reservation q
ask statistics q = stats q

-- what a call gives that is not refused
abbrev pub Gives : Call → Type 0
Gives (send a) = Decision
Gives (flush publish_time) = ℕ
Gives (take room) = Frame
Gives (receipt id message_id) = OpSend × MessageId
Gives (send_error id code) = OpSend × ℤ
Gives (timeouts now room) = Handed
Gives (initial_id next) = Unit {0}
Gives (set s) = Unit {0}
Gives (set_name bytes) = Unit {0}
Gives close = Unit {0}
Gives (query k) = Asked k
Gives (drain room) = Handed
Gives (snapshot droppedRoom replayRoom) = Handed × Handed
Gives (replay entries) = Unit {0}
Gives resend = ℕ

-- the queue after a call, and its answer: the definitions that the methods' contracts cite
abbrev pub step : List ℕ → (c : Call) → Queue → Outcome (Gives c)
step store (send a) q = queue_send (length store) a q
step store (flush publish_time) q = flush_batch publish_time q
step store (take room) q = next_outbound_frame store room q
step store (receipt id message_id) q = apply_receipt id message_id q
step store (send_error id code) q = apply_send_error id code q
step store (timeouts now room) q = drain_timed_out_sends now room q
step store (initial_id next) q = (set_initial_sequence_id next q, done tt)
step store (set s) q = settings.set s q
step store (set_name bytes) q = settings.set_name bytes q
step store close q = (settings.close q, done tt)
step store (query k) q = (q, done (ask k q))
step store (drain room) q = drain_pending_sends room q
step store (snapshot droppedRoom replayRoom) q = snapshot_pending_sends droppedRoom replayRoom q
step store (replay entries) q = replay_snapshots entries q
step store resend q = replay_pending_outbound q

-- ── what comes of a list of calls ──

-- the queue after all of them
unfoldable pub after : List ℕ → Queue → List Call → Queue
after store q [] = q
after store q (c ∷ cs) = after store (step store c q).0 cs

-- a take that is not refused answers a frame
abbrev pub frame_of : (c : Call) → Answer (Gives c) → List Frame
frame_of (take room) (done f) = f ∷ []
frame_of (take room) (refused n values) = []
frame_of (send a) r = []
frame_of (flush publish_time) r = []
frame_of (receipt id message_id) r = []
frame_of (send_error id code) r = []
frame_of (timeouts now room) r = []
frame_of (initial_id next) r = []
frame_of (set s) r = []
frame_of (set_name bytes) r = []
frame_of close r = []
frame_of (query k) r = []
frame_of (drain room) r = []
frame_of (snapshot droppedRoom replayRoom) r = []
frame_of (replay entries) r = []
frame_of resend r = []

-- the frames taken
unfoldable pub taken : List ℕ → Queue → List Call → List Frame
taken store q [] = []
taken store q (c ∷ cs) = frame_of c (step store c q).1 ++ taken store (step store c q).0 cs

-- a send that is not refused adds its message, and no other call does
abbrev pub accepted_by : List ℕ → (c : Call) → Answer (Gives c) → List Message
accepted_by store (send a) (done d) = message_of store a.message ∷ []
accepted_by store (send a) (refused n values) = []
accepted_by store (flush publish_time) r = []
accepted_by store (take room) r = []
accepted_by store (receipt id message_id) r = []
accepted_by store (send_error id code) r = []
accepted_by store (timeouts now room) r = []
accepted_by store (initial_id next) r = []
accepted_by store (set s) r = []
accepted_by store (set_name bytes) r = []
accepted_by store close r = []
accepted_by store (query k) r = []
accepted_by store (drain room) r = []
accepted_by store (snapshot droppedRoom replayRoom) r = []
accepted_by store (replay entries) r = []
accepted_by store resend r = []

-- the accepted messages: a plain list, empty at first, that grows at its end
unfoldable pub accepted : List ℕ → Queue → List Call → List Message
accepted store q [] = []
accepted store q (c ∷ cs) = accepted_by store c (step store c q).1 ++ accepted store (step store c q).0 cs

-- the frames waiting: those that more takes into long enough buffers yield, until 10
pub data Waiting (store : List ℕ) : Queue → List Frame → Type 0 where
  none_waits : {q : Queue} (room : ℕ) → (next_outbound_frame store room q).1 ≡ refused 10 [] → Waiting store q []
  one_waits : {q : Queue} {f : Frame} {fs : List Frame} (room : ℕ) → (next_outbound_frame store room q).1 ≡ done f
      → Waiting store (next_outbound_frame store room q).0 fs → Waiting store q (f ∷ fs)

-- ── the types' ranges ──

-- no premise: it only says that a message's event time is a u64
abbrev pub Is64 : Option ℕ → Type 0
Is64 None = Unit {0}
Is64 (Some n) = n < 2 ^ 64

abbrev pub Ranged : Call → Type 0
Ranged (send a) = Is64 a.message.event_time
Ranged (flush publish_time) = Unit {0}
Ranged (take room) = Unit {0}
Ranged (receipt id message_id) = Unit {0}
Ranged (send_error id code) = Unit {0}
Ranged (timeouts now room) = Unit {0}
Ranged (initial_id next) = Unit {0}
Ranged (set s) = Unit {0}
Ranged (set_name bytes) = Unit {0}
Ranged close = Unit {0}
Ranged (query k) = Unit {0}
Ranged (drain room) = Unit {0}
Ranged (snapshot droppedRoom replayRoom) = Unit {0}
Ranged (replay entries) = Unit {0}
Ranged resend = Unit {0}

abbrev pub AllRanged : List Call → Type 0
AllRanged [] = Unit {0}
AllRanged (c ∷ cs) = Ranged c × AllRanged cs
