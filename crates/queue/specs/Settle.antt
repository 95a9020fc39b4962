-- Document 01, 'receipts, errors, snapshot, replay' and 'ids and clocks': what settles a pending entry, and what times it out.
use Rattle.std.specs.Prelude.{ℕ, suc, Bool, true, false, ◌&&◌, ◌||◌, List, [], ◌∷◌, ◌++◌, map, length, take, drop, eqb, ltb, ℤ, None, Option, Some}
use Rattle.laws.specs.Choice.{pick}
use Rattle.types.specs.Ids.{of_receipt}
use Rattle.types.specs.declared.entry.OpSend.{OpSend}
use Rattle.types.specs.declared.types.MessageId.{MessageId}
use Rattle.queue.specs.Queue.{Queue, Outcome, done, refuse, with_ids, with_pending}
use Rattle.queue.specs.Ids.{published, send_deadline, elapsed}
use Rattle.types.specs.declared.types.MessageIdData.{MessageIdData}

abbrev pub bears : ℕ → OpSend → Bool
bears id op = eqb op.sequence_id.0 id

-- an id is in `pending_index` when an entry that bears it keeps it there
abbrev pub answerable : ℕ → List OpSend → Bool
answerable id [] = false
answerable id (op ∷ l) = (bears id op && op.answerable) || answerable id l

-- the id leaves `pending_index`: no entry keeps it
abbrev pub unmark : ℕ → OpSend → OpSend
unmark id op = record { sequence_id = op.sequence_id; answerable = pick (bears id op) false op.answerable; publish = op.publish }

-- the search stops at the first entry that bears the id
abbrev pub found : ℕ → List OpSend → Option OpSend
found id [] = None
found id (op ∷ l) = pick (bears id op) (Some op) (found id l)

-- the entries without that one
abbrev pub without_id : ℕ → List OpSend → List OpSend
without_id id [] = []
without_id id (op ∷ l) = pick (bears id op) l (op ∷ without_id id l)

-- it leaves the queue, and the id the index: of two entries with one id the other finds no receipt
abbrev pub settled : ℕ → List OpSend → List OpSend
settled id l = map (unmark id) (without_id id l)

-- 11, id not answerable; else the entry found settles
abbrev pub settle : {A : Type 0} → ℕ → (OpSend → A) → (Queue → Queue) → Queue → Bool → Option OpSend → Outcome A
settle id give change q true (Some op) = (change (with_pending (settled id q.pending) q), done (give op))
settle id give change q true None = refuse 11 q
settle id give change q false op = refuse 11 q

-- `apply_receipt`: the published number becomes the id; the producer id is not looked at
unfoldable pub apply_receipt : ℕ → Option MessageIdData → Queue → Outcome (OpSend × MessageId)
apply_receipt id message_id q =
    settle id (λ op. (op, of_receipt message_id)) (λ p. with_ids (published id p.ids) p) q (answerable id q.pending) (found id q.pending)

-- `apply_send_error` removes likewise, keeps the published number and answers the code
unfoldable pub apply_send_error : ℕ → ℤ → Queue → Outcome (OpSend × ℤ)
apply_send_error id code q = settle id (λ op. (op, code)) (λ p. p) q (answerable id q.pending) (found id q.pending)

-- ── timeouts ──

-- how many entries from the front are due: it stops at the first that has time left
abbrev pub due_count : ℕ → Option ℕ → List OpSend → ℕ
due_count now timeout [] = 0
due_count now timeout (op ∷ l) = pick (elapsed now (send_deadline timeout op)) (suc (due_count now timeout l)) 0

-- each taken entry's id leaves the index
abbrev pub unmark_all : List OpSend → List OpSend → List OpSend
unmark_all [] l = l
unmark_all (op ∷ gone) l = unmark_all gone (map (unmark op.sequence_id.0) l)

-- entries at the start of a lent table, and how many, as it is answered
pub record Handed : Type 0 where
  pub count : ℕ
  pub entries : List OpSend

abbrev pub handed : List OpSend → Handed
handed l = record { count = length l; entries = l }

-- what a table of a length is written: 9, the table shorter than what this call would write to it
abbrev pub hand_out : ℕ → List OpSend → Queue → Queue → Outcome Handed
hand_out room gone before after = pick (ltb room (length gone)) (refuse 9 before) (after, done (handed gone))

-- `drain_timed_out_sends`: frames and batched messages stay; without a timeout none is due
unfoldable pub drain_timed_out_sends : ℕ → ℕ → Queue → Outcome Handed
drain_timed_out_sends now room q =
    let n = due_count now q.settings.delays.send_timeout q.pending in
    let gone = take n q.pending in
    hand_out room gone q (with_pending (unmark_all gone (drop n q.pending)) q)

-- the entries of a table after a call: those written, and beyond their count as they were
abbrev pub table_after : {A : Type 0} → List A → List A → List A
table_after entries table = entries ++ drop (length entries) table
