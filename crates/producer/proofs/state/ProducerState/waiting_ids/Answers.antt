-- `ProducerState::waiting_ids`: the array up to the count is the list of the frames' ids.
use Rattle.std.proofs.Common.{min, map, ap, ◌∙◌, arith}
use lib.ListN.{length-map}
use Rattle.laws.specs.Ring.{slot}
use Rattle.rows.specs.Frame.{decode_frame}
use Rattle.rules.specs.declared.rings.Rings.{Rings}
use Rattle.tables.proofs.Turns.{listed}
use Rattle.producer.specs.State.{state_of}
use Rattle.producer.specs.Replay.{frame_id}
use Rattle.producer.specs.View.{queue_of}
use Rattle.producer.proofs.Borne.{few_names, length_names, id_there}
use Rattle.producer.proofs.Listed.{listing_step, listing_all}
use Rattle.producer.proofs.state.ProducerState.waiting_ids.Goals as goal
use Rattle.queue.specs.Sizes.{outbound_size}

pub loop-i-preserved : goal.loop-i-preserved
loop-i-preserved c =
    let s = state_of c.args.self.now in
    let k = c.loop-i in
    let full = length-map c.args.self.now.outbound decode_frame ∙ omega arith in
    let e = length_names s full in
    let many = c.count-len.ensures ∙ ap (λ (r : Rings). min r.outbound.len outbound_size) c.decode.ensures in
    let at = c.slot.ensures ∙ ap (λ (r : Rings). slot outbound_size r.outbound.head k.i) c.decode.ensures in
    listing_step outbound_size _ _ k.items k.i k.invariant _ (omega arith) (omega (arith, e)) (omega (arith, many))
    (id_there c.args.self.now (omega arith) k.i _ _ at (omega (arith, many)))

pub returns : goal.returns
returns c =
    let s = state_of c.args.self.now in
    let k = c.loop-i in
    let many = c.count-len.ensures ∙ ap (λ (r : Rings). min r.outbound.len outbound_size) c.decode.ensures in
    listed (map frame_id (queue_of s).out.frames) _ (omega (arith, many, k.invariant.len))
    (rw many (listing_all outbound_size _ _ k.items k.i k.invariant (omega (arith, many)) (few_names s)))
