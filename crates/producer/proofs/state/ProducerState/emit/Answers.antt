-- `ProducerState::emit`: one step after the other is the planned one.
use Rattle.std.proofs.Common.{ℤ, ap, ◌∙◌, w32}
use mir.ValLaws.{to_z-of_z}
use Rattle.rows.specs.Entry.{decode_replay}
use Rattle.rows.specs.Message.{decode_message}
use Rattle.plans.specs.Delta.{counted_core}
use Rattle.plans.specs.Send.{publish_of}
use Rattle.producer.specs.Apply.{store_core}
use Rattle.producer.specs.Push.{whole, accepted_state, pushed_state}
use Rattle.producer.specs.State.{State, state_of}
use Rattle.producer.proofs.state.ProducerState.emit.Goals as goal

pub returns : goal.returns
returns c =
    let n = c.args.pushed in
    let s = state_of c.args.self.now in
    let number = ap
    (λ (x : ℤ). accepted_state (publish_of (whole (decode_message c.args.message.now) c.args.a) x (decode_replay c.args.replay) s.core) s)
    (to_z-of_z w32 c.args.num_messages c.ranges.num_messages) in
    c.push.ensures
    ∙ ap (pushed_state _ n.frames) (c.count.ensures ∙ ap (λ (t : State). store_core (counted_core n.messages n.bytes t.core) t) (c.accept.ensures ∙ number))
