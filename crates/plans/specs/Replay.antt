-- What the plans of the replays answer. These mirror the code.
use Rattle.std.specs.Prelude.{ℕ, ◌+◌, min, Bool, true, not, nat_lt, Err, None, Ok, Option, Result, Some}
use Rattle.laws.specs.Choice.{pick}
use Rattle.laws.specs.Numbers.{add_sat}
use Rattle.types.specs.declared.entry.OpSend.{OpSend}
use Rattle.types.specs.declared.error.ProducerError.TheVariants.{OutboundFull, PendingFull, MalformedEntry}
use Rattle.types.specs.declared.frame.FrameRecord.{FrameRecord}
use Rattle.plans.specs.declared.state.Core.{Core}
use Rattle.rules.specs.Rings.{place_before, longer_before}
use Rattle.plans.specs.declared.delta.Pushed.{Pushed}
use Rattle.plans.specs.Delta.{put_at}
use Rattle.types.specs.declared.error.ProducerError.{ProducerError}
use Rattle.queue.specs.Sizes.{outbound_size, pending_size}

-- a record of n frames before the first, or none
abbrev pub fronted_core : Option FrameRecord → ℕ → Core → Pushed FrameRecord
fronted_core None n c =
    let r = c.rings in
    record { core = record c { rings = record r { waiting = add_sat n r.waiting } }; put = None }
fronted_core (Some frame) n c =
    let r = c.rings in
    record {
      core = record c { rings = record r { outbound = longer_before outbound_size r.outbound; waiting = add_sat n r.waiting } };
      put = put_at (place_before outbound_size r.outbound) frame;
    }

-- an entry before the first, answerable
abbrev pub fronted_entry : OpSend → Core → Pushed OpSend
fronted_entry op c =
    let r = c.rings in
    record {
      core = record c { rings = record r { pending = longer_before pending_size r.pending } };
      put = put_at (place_before pending_size r.pending) (record op { answerable = true });
    }

abbrev pub replay_count : ℕ → Core → Result ℕ ProducerError
replay_count frames c = pick (nat_lt outbound_size (c.rings.waiting + frames)) (Err OutboundFull) (Ok frames)

-- 12, then 7, then 4
abbrev pub replay_answer : Bool → ℕ → ℕ → Core → Result (Unit {0}) ProducerError
replay_answer wellFormed entries frames c =
    pick (not wellFormed) (Err MalformedEntry)
    (pick (nat_lt pending_size (entries + min c.rings.pending.len pending_size)) (Err PendingFull)
    (pick (nat_lt outbound_size (c.rings.waiting + frames)) (Err OutboundFull) (Ok tt)))
