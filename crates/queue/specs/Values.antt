-- Which refusals answer values: of all calls a send alone is refused by 6.
use Rattle.std.specs.Prelude.{ℕ, []}
use Rattle.queue.specs.Queue.{Queue, Outcome, refused, done}
use Rattle.queue.specs.Run.{Call, send, flush, take, receipt, send_error, timeouts, initial_id, set, set_name, close, query, drain, snapshot, replay, resend}

-- no send
abbrev pub Plain : Call → Type 0
Plain (send a) = ⊥
Plain (flush publish_time) = Unit {0}
Plain (take room) = Unit {0}
Plain (receipt id message_id) = Unit {0}
Plain (send_error id code) = Unit {0}
Plain (timeouts now room) = Unit {0}
Plain (initial_id next) = Unit {0}
Plain (set s) = Unit {0}
Plain (set_name bytes) = Unit {0}
Plain close = Unit {0}
Plain (query k) = Unit {0}
Plain (drain room) = Unit {0}
Plain (snapshot droppedRoom replayRoom) = Unit {0}
Plain (replay entries) = Unit {0}
Plain resend = Unit {0}

-- no refusal with values
pub data NoValues {A : Type 0} : Outcome A → Type 0 where
  bare : (q : Queue) (n : ℕ) → NoValues (q, refused n [])
  given : (q : Queue) (x : A) → NoValues (q, done x)
