-- What a status and the values in lent memory say.
use Rattle.std.specs.Prelude.{◌≡◌, ℕ, ◌==◌, ℤ, Bool, true, false, ◌||◌, List, [], ◌∷◌, Result, Ok, Err}
use Rattle.laws.specs.Choice.{pick}
use Rattle.types.specs.Refusals.{number_of}
use Rattle.types.specs.declared.error.ProducerError.{ProducerError}
use Rattle.queue.specs.Queue.{Answer, refused, done}
use Rattle.queue.specs.Frame.{Frame}
use Rattle.queue.specs.Send.{Decision, emitted, batched}
use Rattle.queue.specs.Settle.{Handed}
use Rattle.types.specs.declared.entry.OpSend.{OpSend}
use Rattle.types.specs.declared.types.MessageId.{MessageId}
use Rattle.rows.specs.Entry.{decode_entry}
use Rattle.rows.specs.Outbound.{decode_outbound}
use Rattle.rows.specs.declared.entry.OpSendRow.{OpSendRow}
use Rattle.rows.specs.declared.outbound.OutboundRow.{OutboundRow}
use Rattle.producer.specs.Tables.{told_first}
use Rattle.producer.specs.Take.{frame_told}
use Rattle.tevrulig.specs.declared.send.Sent.{Sent}
use Rattle.tevrulig.specs.declared.lent.Counts.{Counts}

-- 0, or the number of the refusal
abbrev pub status_of : {A : Type 0} → Result A ProducerError → ℕ
status_of (Ok x) = 0
status_of (Err e) = number_of e

-- 0 and what is given, or the number of a refusal, which answers no values
abbrev pub answered : {A : Type 0} → ℕ → A → Answer A
answered status x = pick (status == 0) (done x) (refused status [])

-- of a call that gives nothing
abbrev pub status_answer : ℕ → Answer (Unit {0})
status_answer status = answered status tt

-- a send: 6 answers its two numbers
abbrev pub decision_of : Sent → Decision
decision_of s = pick (s.batched == 0) (emitted s.count) batched

abbrev pub sent_answer : ℕ → Sent → Answer Decision
sent_answer status s = pick (status == 6) (refused 6 (s.size ∷ s.max_message_size ∷ [])) (answered status (decision_of s))

-- a frame with its payload at the start of the buffer
abbrev pub taken_answer : List ℕ → List ℕ → ℕ → OutboundRow → Answer Frame
taken_answer store buffer status f = answered status (frame_told store buffer (decode_outbound f))

-- a count, and so many rows of the table
abbrev pub table_answer : ℕ → ℕ → List OpSendRow → Answer Handed
table_answer status count table = answered status (told_first count table)

abbrev pub snapshot_answer : ℕ → Counts → List OpSendRow → List OpSendRow → Answer (Handed × Handed)
snapshot_answer status n dropped replay = answered status (told_first n.dropped dropped, told_first n.replay replay)

-- the entry that left, with the message's id or the error's code
abbrev pub receipt_answer : ℕ → OpSendRow → MessageId → Answer (OpSend × MessageId)
receipt_answer status entry id = answered status (decode_entry entry, id)

abbrev pub error_answer : ℕ → OpSendRow → ℤ → Answer (OpSend × ℤ)
error_answer status entry code = answered status (decode_entry entry, code)

-- how many rows an answer hands out; none of a refusal
abbrev pub rows_given : ℕ → ℕ → ℕ
rows_given status count = pick (status == 0) count 0

-- where it is not let be, a value stays
abbrev pub unless : {S : Type 0} → Bool → S → S → Type 0
unless true before after = Unit {0}
unless false before after = after ≡ before

-- a refusal leaves it as it was
abbrev pub Left : {S : Type 0} → ℕ → S → S → Type 0
Left status before after = unless (status == 0) before after

-- but for 6, which answers its numbers there
abbrev pub LeftBySend : ℕ → Sent → Sent → Type 0
LeftBySend status before after = unless (status == 0 || status == 6) before after
