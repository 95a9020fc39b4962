-- `frames::held::Held::message`: the row at the slot stands for the message there.
use Rattle.frames.proofs.Batches.{held_there}
use Rattle.frames.proofs.held.Held.message.Goals as goal

pub returns : goal.returns
returns c =
    let s = c.args.self in
    held_there s.messages.now s.full s.ring.head s.ring.len c.args.place _ _ _ c.slot.ensures c.decode.ensures
