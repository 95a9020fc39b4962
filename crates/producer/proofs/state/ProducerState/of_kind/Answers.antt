-- `ProducerState::of_kind`: the entries of the kind are those that are chosen.
use Rattle.std.proofs.Common.{List, map, take, ap, subst, ◌∙◌}
use Rattle.laws.specs.Lists.{keeping}
use Rattle.types.specs.declared.entry.OpSend.{OpSend}
use Rattle.rows.specs.Entry.{decode_entry}
use Rattle.tables.specs.Picked.{is_kind, ListsRows}
use Rattle.tables.proofs.Turns.{kept_kind}
use Rattle.producer.specs.State.{state_of}
use Rattle.producer.specs.View.{queue_of}
use Rattle.producer.proofs.Listed.{all_pending}
use Rattle.producer.proofs.state.ProducerState.of_kind.Goals as goal
use Rattle.queue.specs.Sizes.{pending_size}

pub returns : goal.returns
returns c =
    let s = state_of c.args.self.now in
    let b = c.args.batched in
    subst (λ (l : List OpSend). ListsRows l c.picked.result)
    (ap (λ (l : List OpSend). keeping (is_kind b) (take pending_size l)) (ap (map decode_entry) c.as_slice.ensures ∙ c.entries-pending.ensures.same) ∙ ap (keeping (is_kind b)) (all_pending s) ∙ kept_kind b (queue_of s).pending)
    c.picked.ensures
