-- What the contracts of a send speak of.
use Rattle.std.specs.Prelude.{◌≡◌, ℕ, ℤ, Result, false, ◌&&◌, List, ◌==◌}
use Rattle.types.specs.declared.message.OutgoingMessage.{OutgoingMessage}
use Rattle.types.specs.declared.answer.SendDecision.{SendDecision}
use Rattle.types.specs.declared.error.ProducerError.{ProducerError}
use Rattle.types.specs.declared.way.Way.{Way}
use Rattle.types.specs.declared.way.Way.TheVariants.{TooLarge, Join, Single, Chunked}
use Rattle.rows.specs.Entry.{decode_replay}
use Rattle.rows.specs.Frame.{decode_kind}
use Rattle.rows.specs.Message.{decode_message}
use Rattle.rows.specs.declared.entry.ReplayRow.{ReplayRow}
use Rattle.rows.specs.declared.frame.KindRow.{KindRow}
use Rattle.rows.specs.declared.message.MessageRow.{MessageRow}
use Rattle.plans.specs.Send.{publish_of, emitted, SendDelta}
use Rattle.producer.specs.Apply.{applied}
use Rattle.producer.specs.Push.{whole, emitted_state}
use Rattle.producer.specs.State.{state_of}
use Rattle.producer.specs.declared.push.Given.{Given}
use Rattle.producer.specs.declared.send.PushedFrames.{PushedFrames}
use Rattle.producer.specs.declared.state.ProducerState.{ProducerState}
use Rattle.queue.specs.Queue.{Queue, Answer, refused, done}
use Rattle.queue.specs.Send.{Sending, Decision, flushes_before}

abbrev pub sending : OutgoingMessage → ℕ → List ℕ → ℕ → ℕ → Sending
sending message reserved uuid publish_time time =
    record { message = message; reserved = reserved; uuid = uuid; publish_time = publish_time; now = time }

-- a refusal leaves the state as it was, but for 6 where it has flushed the waiting batch
abbrev pub KeptSend : {S : Type 0} → OutgoingMessage → Queue → Answer Decision → S → S → Type 0
KeptSend m q (refused n values) before after = n == 6 && flushes_before q.settings m q.out.batch ≡ false → after ≡ before
KeptSend m q (done x) before after = Unit {0}

-- a message over the limit leaves every row as it was, where nothing is flushed before it
abbrev pub Stays : {S : Type 0} → Way → S → S → Type 0
Stays (TooLarge before) old new = before ≡ false → new ≡ old
Stays (Join before after) old new = Unit {0}
Stays (Single before) old new = Unit {0}
Stays (Chunked before size count) old new = Unit {0}

-- a plan is carried out: what it stores, and its answer
abbrev pub Carries : SendDelta → ProducerState → Result SendDecision ProducerError → ProducerState → Type 0
Carries d before answer after = (state_of after ≡ applied d (state_of before)) × (answer ≡ d.answer)

-- an entry, and its frames
abbrev pub Emits : MessageRow → Given → ℤ → ReplayRow → KindRow → PushedFrames → ProducerState → ProducerState → Type 0
Emits m a num_messages replay kind pushed before after =
    let s = state_of before in
    let p = publish_of (whole (decode_message m) a) num_messages (decode_replay replay) s.core in
    state_of after ≡ emitted_state (emitted p (decode_kind kind) pushed.frames pushed.messages pushed.bytes s.core) s
