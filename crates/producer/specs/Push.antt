-- What a push leaves of a state: the planned scalars, and the record in its place. These mirror the code.
use Rattle.std.specs.Prelude.{ℕ}
use Rattle.types.specs.declared.entry.Publish.{Publish}
use Rattle.types.specs.declared.frame.FrameRecord.{FrameRecord}
use Rattle.types.specs.declared.message.OutgoingMessage.{OutgoingMessage}
use Rattle.types.specs.declared.message.SingleMessage.{SingleMessage}
use Rattle.plans.specs.Send.{Emitted, Joined}
use Rattle.plans.specs.Delta.{accepted, held, pushed}
use Rattle.plans.specs.declared.delta.Pushed.{Pushed}
use Rattle.plans.specs.declared.send.Sending.{Sending}
use Rattle.producer.specs.Apply.{store_core, store_frame, store_entry, store_held}
use Rattle.producer.specs.State.{State}
use Rattle.producer.specs.declared.push.Given.{Given}

-- a send's message, with what comes beside it
abbrev pub whole : OutgoingMessage → Given → Sending
whole m a = record { message = m; reservation = a.reservation; uuid = a.uuid; publish_time = a.publish_time; now = a.now }

abbrev pub accepted_state : Publish → State → State
accepted_state p s = let e = accepted p s.core in store_entry e.put (store_core e.core s)

abbrev pub held_state : SingleMessage → State → State
held_state m s = let e = held m s.core in store_held e.put (store_core e.core s)

abbrev pub after : Pushed FrameRecord → State → State
after p s = store_frame p.put (store_core p.core s)

abbrev pub pushed_state : FrameRecord → ℕ → State → State
pushed_state r n s = after (pushed r n s.core) s

-- a message in a frame of its own, and one in the open batch
abbrev pub emitted_state : Emitted → State → State
emitted_state e s = store_entry e.entry (store_frame e.frame (store_core e.core s))

abbrev pub joined_state : Joined → State → State
joined_state e s = store_held e.held (store_entry e.entry (store_core e.core s))
