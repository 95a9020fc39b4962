-- The messages of one batch frame.
use Rattle.std.specs.Prelude.{List, map}
use Rattle.laws.specs.Ring.{ring}
use Rattle.types.specs.declared.message.SingleMessage.{SingleMessage}
use Rattle.queue.specs.Sizes.{held_size}
use Rattle.rows.specs.Message.{decode_single}
use Rattle.frames.specs.declared.held.Held.{Held}

abbrev pub held_of : Held → List SingleMessage
held_of h = ring held_size (map decode_single h.messages.now) h.ring.head h.ring.len
