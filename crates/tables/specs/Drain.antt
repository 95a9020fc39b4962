-- What the steps of a drain answer. These mirror the code, or speak of arrays where crate `queue` speaks of entries.
use Rattle.std.specs.Prelude.{ℕ, Bool, List, [], ◌∷◌, length, nat_lt, Err, None, Ok, Option, Result, Some}
use Rattle.laws.specs.Choice.{pick}
use Rattle.types.specs.declared.entry.OpSend.{OpSend}
use Rattle.rows.specs.Entry.{decode_entry}
use Rattle.rows.specs.declared.entry.OpSendRow.{OpSendRow}
use Rattle.types.specs.declared.types.SequenceId.{SequenceId}
use Rattle.queue.specs.Ids.{send_deadline, elapsed}
use Rattle.queue.specs.Settle.{due_count}
use Rattle.upkeep.specs.Pending.{cleared_all}
use Rattle.types.specs.declared.error.ProducerError.{ProducerError}
use Rattle.types.specs.declared.error.ProducerError.TheVariants.{TooShort}

abbrev pub is_due : ℕ → Option ℕ → OpSend → Bool
is_due time timeout op = elapsed time (send_deadline timeout op)

-- the same of an entry as a row
abbrev pub due_row : ℕ → Option ℕ → OpSendRow → Bool
due_row time timeout row = is_due time timeout (decode_entry row)

-- how many entries a drain hands out: those that are due at a time, or all
abbrev pub gone_count : Option ℕ → Option ℕ → List OpSend → ℕ
gone_count None timeout l = length l
gone_count (Some time) timeout l = due_count time timeout l

-- as many as there are, or 9 where the table is too short
abbrev pub handout_of : ℕ → ℕ → Result ℕ ProducerError
handout_of count room = pick (nat_lt room count) (Err TooShort) (Ok count)

-- no entry keeps one of the ids in the index
abbrev pub cleared_each : List OpSend → List SequenceId → List ℕ → List ℕ
cleared_each [] ids marks = marks
cleared_each (op ∷ gone) ids marks = cleared_each gone ids (cleared_all op.sequence_id.0 ids marks)
