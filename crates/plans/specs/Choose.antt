-- The refusals of a send, 1 to 7 in order, by the scalars. What 6 refuses goes its way, which may flush.
use Rattle.std.specs.Prelude.{ℕ, ◌+◌, min, not, ◌&&◌, nat_le, nat_lt, Err, Ok, Result}
use Rattle.laws.specs.Choice.{pick}
use Rattle.types.specs.declared.error.ProducerError.TheVariants.{Closed, PartOutside, OverBound, OutboundFull, HeldFull, PendingFull}
use Rattle.types.specs.declared.message.OutgoingMessage.{OutgoingMessage}
use Rattle.types.specs.declared.way.Way.{Way}
use Rattle.queue.specs.Sizes.{outbound_size, held_size, pending_size}
use Rattle.queue.specs.Send.{way_of, pushes, joins, is_too_large, message_in, within_bounds}
use Rattle.plans.specs.declared.state.Core.{Core}
use Rattle.types.specs.declared.error.ProducerError.{ProducerError}

-- 4, 5 and 7 of a way
abbrev pub allowed_way : Way → Core → Result Way ProducerError
allowed_way w c =
    pick (nat_lt outbound_size (c.rings.waiting + pushes w)) (Err OutboundFull)
    (pick (joins w && nat_le held_size (min c.rings.held.len held_size)) (Err HeldFull)
    (pick (not (is_too_large w) && nat_le pending_size (min c.rings.pending.len pending_size)) (Err PendingFull)
    (Ok w)))

unfoldable pub chosen_within : OutgoingMessage → Core → Result Way ProducerError
chosen_within m c = allowed_way (way_of c.settings m c.batch) c

unfoldable pub chosen : ℕ → OutgoingMessage → ℕ → Core → Result Way ProducerError
chosen n m reserved c =
    pick c.settings.switches.closed (Err Closed)
    (pick (not (message_in n m m.payload)) (Err PartOutside)
    (pick (not (within_bounds m reserved)) (Err OverBound)
    (chosen_within m c)))
