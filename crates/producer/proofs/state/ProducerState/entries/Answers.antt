-- `ProducerState::entries`: the array up to the count is the list of entries.
use Rattle.std.proofs.Common.{◌+◌, List, min, map, refl, sym, ap, subst, ◌∙◌, arith}
use lib.ListN.{length-map}
use Rattle.laws.proofs.Lists.{map_take}
use Rattle.types.specs.declared.entry.OpSend.{OpSend}
use Rattle.rows.specs.Entry.{decode_entry}
use Rattle.tables.proofs.Turns.{listed_rows}
use Rattle.rules.specs.declared.rings.Rings.{Rings}
use Rattle.producer.specs.State.{state_of}
use Rattle.producer.specs.View.{queue_of}
use Rattle.producer.proofs.Listed.{Listing, few_pending, listing_step, listing_all}
use Rattle.producer.proofs.Locate.{length_view}
use Rattle.producer.proofs.Rows.{full_rows, stored_row}
use Rattle.producer.proofs.state.ProducerState.entries.Goals as goal
use Rattle.queue.specs.Sizes.{pending_size}

pub loop-i-preserved : goal.loop-i-preserved
loop-i-preserved c =
    let s = state_of c.args.self.now in
    let f = full_rows c.args.self.now (omega arith) (omega arith) (omega arith) (omega arith) c.row_at.ensures.marks in
    let k = c.loop-i in
    let many = c.count-len.ensures ∙ ap (λ (r : Rings). min r.pending.len pending_size) c.decode.ensures in
    let all : List OpSend = map decode_entry k.items in
    subst (λ (l : List OpSend). Listing pending_size (min s.core.rings.pending.len pending_size) (queue_of s).pending l (k.i + 1)) (sym (stored_row decode_entry k.items k.i c.row_at.result _ refl))
    (listing_step pending_size _ _ all k.i k.invariant _ (omega arith) (omega (arith, length_view s f)) (omega (arith, many)) c.row_at.ensures.entry)

pub returns : goal.returns
returns c =
    let s = state_of c.args.self.now in
    let k = c.loop-i in
    let many = c.count-len.ensures ∙ ap (λ (r : Rings). min r.pending.len pending_size) c.decode.ensures in
    let all : List OpSend = map decode_entry k.items in
    listed_rows (queue_of s).pending _ (omega (arith, many, k.invariant.len, length-map k.items decode_entry))
    (map_take decode_entry _ k.items ∙ rw many (listing_all pending_size _ _ all k.i k.invariant (omega (arith, many)) (few_pending s)))
