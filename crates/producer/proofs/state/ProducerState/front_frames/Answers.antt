-- `ProducerState::front_frames`: the frames of the entries that the loop has yet to reach are still to go to the front.
use Rattle.std.proofs.Common.{map, subst, sym, ap, ◌∙◌, arith}
use Rattle.std.specs.declared.iter.Rev.{Rev}
use Rattle.std.specs.declared.slice.Iter.{Iter}
use lib.ListN.{length-map}
use Rattle.types.specs.declared.entry.OpSend.{OpSend}
use Rattle.queue.specs.Tables.{again, frames_of}
use Rattle.tables.specs.Again.{unless_batched}
use Rattle.laws.proofs.Lists.{map_append}
use Rattle.rows.specs.Entry.{decode_entry}
use Rattle.rows.specs.declared.entry.OpSendRow.{OpSendRow}
use Rattle.plans.specs.Replay.{fronted_core}
use Rattle.producer.specs.Apply.{store_frame}
use Rattle.producer.specs.State.{State, state_of}
use Rattle.producer.proofs.Full.{Full}
use Rattle.producer.proofs.Rows.{full_rows}
use Rattle.producer.proofs.Fronts.{Fronting, fronting_start, fronting_step, fronting_end}
use Rattle.producer.proofs.state.ProducerState.front_frames.Goals as goal

pub loop-row-init : goal.loop-row-init
loop-row-init c =
    let s = state_of c.args.self.now in
    let f : Full s = full_rows c.args.self.now (omega arith) (omega arith) (omega arith) (omega arith) (omega arith) in
    let e = ap (λ (r : Rev (Iter OpSendRow)). r.iter.rest.now) c.into_iter-row-iterator.ensures.into_iter_gives
    ∙ ap (λ (i : Iter OpSendRow). i.rest.now) c.rev-row-items.ensures.source ∙ c.iter.ensures.rest in
    fronting_start s (map decode_entry c.args.ops.now) _ f c.requires (ap (map decode_entry) e)

pub loop-row-preserved : goal.loop-row-preserved
loop-row-preserved c =
    let a = c.args in
    let k = c.loop-row in
    let rest = map decode_entry c.next.new.self.iter.rest.now in
    let op = c.decode-op.ensures in
    let steps = ap (map decode_entry) c.in-Some.ensures.steps ∙ map_append decode_entry c.next.new.self.iter.rest.now _ in
    let planned = c.front-p.ensures ∙ (λ j. fronted_core ((c.frame_again.ensures ∙ ap (λ (o : OpSend). unless_batched o.publish.replay (again o)) op) j) ((c.frames_of.ensures ∙ ap (λ (o : OpSend). frames_of o.publish.replay) op) j) (c.decode.ensures j)) in
    subst (λ (t : State). Fronting (state_of a.self.now) (map decode_entry a.ops.now) t rest) (sym (c.store_frame.ensures ∙ ap (store_frame c.front-p.result.put) c.store_core.ensures))
    (fronting_step (state_of a.self.now) (map decode_entry a.ops.now) (state_of k.self) _ rest (decode_entry c.in-Some.row.now) k.invariant steps c.front-p.result planned)

pub returns : goal.returns
returns c =
    let a = c.args in
    let k = c.loop-row in
    fronting_end (state_of a.self.now) (map decode_entry a.ops.now) (state_of k.self) _ k.invariant (length-map _ decode_entry ∙ c.in-None.ensures.steps.0)
