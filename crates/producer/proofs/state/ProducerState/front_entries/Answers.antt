-- `ProducerState::front_entries`: the entries that the loop has yet to reach are still to go to the front.
use Rattle.std.proofs.Common.{map, subst, sym, ap, ◌∙◌, arith}
use Rattle.std.specs.declared.iter.Rev.{Rev}
use Rattle.std.specs.declared.slice.Iter.{Iter}
use lib.ListN.{length-map}
use Rattle.laws.proofs.Lists.{map_append}
use Rattle.rows.specs.Entry.{decode_entry}
use Rattle.rows.specs.declared.entry.OpSendRow.{OpSendRow}
use Rattle.plans.specs.Replay.{fronted_entry}
use Rattle.producer.specs.Apply.{store_entry}
use Rattle.producer.specs.State.{State, state_of}
use Rattle.producer.proofs.Full.{Full}
use Rattle.producer.proofs.Rows.{full_rows}
use Rattle.producer.proofs.Fronts.{Entering, entering_start, entering_step, entering_end}
use Rattle.producer.proofs.state.ProducerState.front_entries.Goals as goal

pub loop-row-init : goal.loop-row-init
loop-row-init c =
    let s = state_of c.args.self.now in
    let f : Full s = full_rows c.args.self.now (omega arith) (omega arith) (omega arith) (omega arith) (omega arith) in
    let e = ap (λ (r : Rev (Iter OpSendRow)). r.iter.rest.now) c.into_iter-row-iterator.ensures.into_iter_gives
    ∙ ap (λ (i : Iter OpSendRow). i.rest.now) c.rev-row-items.ensures.source ∙ c.iter.ensures.rest in
    entering_start s (map decode_entry c.args.ops.now) _ f (ap (map decode_entry) e)

pub loop-row-preserved : goal.loop-row-preserved
loop-row-preserved c =
    let a = c.args in
    let k = c.loop-row in
    let rest = map decode_entry c.next.new.self.iter.rest.now in
    let steps = ap (map decode_entry) c.in-Some.ensures.steps ∙ map_append decode_entry c.next.new.self.iter.rest.now _ in
    subst (λ (t : State). Entering (state_of a.self.now) (map decode_entry a.ops.now) t rest) (sym (c.store_entry.ensures ∙ ap (store_entry c.front_entry-p.result.put) c.store_core.ensures))
    (entering_step (state_of a.self.now) (map decode_entry a.ops.now) (state_of k.self) _ rest (decode_entry c.in-Some.row.now) k.invariant steps c.front_entry-p.result (c.front_entry-p.ensures ∙ (λ j. fronted_entry (c.decode-op.ensures j) (c.decode.ensures j))))

pub returns : goal.returns
returns c =
    let a = c.args in
    let k = c.loop-row in
    entering_end (state_of a.self.now) (map decode_entry a.ops.now) (state_of k.self) _ k.invariant (length-map _ decode_entry ∙ c.in-None.ensures.steps.0)
