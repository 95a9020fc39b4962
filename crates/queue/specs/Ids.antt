-- Document 01, 'ids and clocks': sequence ids and deadlines.
use Rattle.std.specs.Prelude.{ℕ, Bool, false, List, [], ◌∷◌, leb, ltb, eqb, None, Option, Some}
use Rattle.laws.specs.Choice.{pick}
use Rattle.laws.specs.Numbers.{next_id, signed}
use Rattle.types.specs.Ids.{before_next}
use Rattle.types.specs.Time.{deadline_with_clamp}
use Rattle.types.specs.declared.entry.OpSend.{OpSend}
use Rattle.types.specs.declared.stats.SequenceIds.{SequenceIds}
use Rattle.queue.specs.Queue.{Queue, with_ids}

-- the next id; above 0 both the pushed and the published number go with it, for 0 those two stay
unfoldable pub set_initial_sequence_id : ℕ → Queue → Queue
set_initial_sequence_id next q =
    with_ids
    (pick (ltb 0 next)
    (record { next_sequence_id = record { 0 = next }; last_sequence_id_pushed = before_next next; last_sequence_id_published = before_next next })
    (record {
      next_sequence_id = record { 0 = next };
      last_sequence_id_pushed = q.ids.last_sequence_id_pushed;
      last_sequence_id_published = q.ids.last_sequence_id_published;
    }))
    q

-- a send takes the next id, which becomes the pushed number
abbrev pub assigned : SequenceIds → SequenceIds
assigned i =
    record {
      next_sequence_id = record { 0 = next_id i.next_sequence_id.0 };
      last_sequence_id_pushed = signed i.next_sequence_id.0;
      last_sequence_id_published = i.last_sequence_id_published;
    }

-- a receipt's id becomes the published number, which may go down
abbrev pub published : ℕ → SequenceIds → SequenceIds
published id i =
    record {
      next_sequence_id = i.next_sequence_id;
      last_sequence_id_pushed = i.last_sequence_id_pushed;
      last_sequence_id_published = signed id;
    }

-- a time plus a delay, none without a delay
abbrev pub delayed : Option ℕ → ℕ → Option ℕ
delayed None time = None
delayed (Some delay) time = Some (deadline_with_clamp time delay)

-- an entry's deadline is the time of its send plus the send timeout
abbrev pub send_deadline : Option ℕ → OpSend → Option ℕ
send_deadline timeout op = delayed timeout op.publish.enqueued_at

-- that of the front entry, none without an entry or a timeout
abbrev pub front_deadline : Option ℕ → List OpSend → Option ℕ
front_deadline timeout [] = None
front_deadline timeout (op ∷ l) = send_deadline timeout op

unfoldable pub next_send_deadline : Queue → Option ℕ
next_send_deadline q = front_deadline q.settings.delays.send_timeout q.pending

-- a batch's: its first message's time plus the publish delay, none if either is absent ('batch')
unfoldable pub next_batch_deadline : Queue → Option ℕ
next_batch_deadline q =
    let b = q.out.batch in
    pick (eqb b.len 0) None (delayed q.settings.delays.batching_max_publish_delay b.first_added_at)

-- a deadline that is there has passed
abbrev pub elapsed : ℕ → Option ℕ → Bool
elapsed now None = false
elapsed now (Some deadline) = leb deadline now

unfoldable pub batch_deadline_elapsed : ℕ → Queue → Bool
batch_deadline_elapsed now q = elapsed now (next_batch_deadline q)
