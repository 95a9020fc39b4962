-- `ProducerState::hand_out`: what is planned is what the definitions hand out.
use Rattle.std.specs.Prelude.{Option}
use Rattle.std.proofs.Common.{ℕ, List, map, length, ◌∙◌, ap, sym, length-take-le, arith}
use Rattle.std.proofs.lemmas.Result.{err_from_is_err_and}
use Rattle.laws.proofs.Lists.{map_take}
use Rattle.types.specs.declared.entry.OpSend.{OpSend}
use Rattle.rows.specs.Entry.{decode_entry}
use Rattle.tables.specs.Drain.{cleared_each, gone_count, handout_of}
use Rattle.tables.specs.Scalars.{core_after}
use Rattle.producer.specs.State.{state_of}
use Rattle.producer.proofs.Rows.{full_rows}
use Rattle.producer.proofs.Drains.{plan_fits, drains_short, drains_done, counted}
use Rattle.producer.proofs.state.ProducerState.hand_out.Goals as goal

pub slice_bounds-copy_entries-end : goal.slice_bounds-copy_entries-end
slice_bounds-copy_entries-end c =
    let rows = c.as_slice-entries.result.now in
    let e = ap (map decode_entry) c.as_slice-entries.ensures ∙ c.entries-pending.ensures.same in
    let many = c.gone_count-many.ensures ∙ ap (λ (d : Option ℕ). gone_count c.args.due d (map decode_entry rows)) c.decode.ensures in
    let fits = (plan_fits c.args.self.now c.args.due rows e c.args.table.now c.in_ok-count.count (sym (c.in_ok-count.ensures ∙ ap (λ (k : ℕ). handout_of k (length c.args.table.now)) many))).0 in
    sym (length-take-le c.in_ok-count.count c.as_slice-entries.result.now fits)

pub slice_bounds-unmark_each-end : goal.slice_bounds-unmark_each-end
slice_bounds-unmark_each-end c =
    let rows = c.as_slice-entries.result.now in
    let e = ap (map decode_entry) c.as_slice-entries.ensures ∙ c.entries-pending.ensures.same in
    let many = c.gone_count-many.ensures ∙ ap (λ (d : Option ℕ). gone_count c.args.due d (map decode_entry rows)) c.decode.ensures in
    let fits = (plan_fits c.args.self.now c.args.due rows e c.args.table.now c.in_ok-count.count (sym (c.in_ok-count.ensures ∙ ap (λ (k : ℕ). handout_of k (length c.args.table.now)) many))).0 in
    sym (length-take-le c.in_ok-count.count c.as_slice-entries.result.now fits)

pub returns : goal.returns
returns c =
    let r = c.args.self.now in
    let s = state_of r in
    let f = full_rows r (omega arith) (omega arith) (omega arith) (omega arith) (omega arith) in
    let rows = c.as_slice-entries.result.now in
    let e = ap (map decode_entry) c.as_slice-entries.ensures ∙ c.entries-pending.ensures.same in
    let many = c.gone_count-many.ensures ∙ ap (λ (d : Option ℕ). gone_count c.args.due d (map decode_entry rows)) c.decode.ensures in
    let n = c.in_ok-count.count in
    let core = c.after_drain-core.ensures ∙ λ j. core_after c.args.due n (c.decode-2.ensures j) in
    let marks = c.unmark_each.ensures ∙ ap (λ (l : List OpSend). cleared_each l r.pending_ids r.pending_marks) (map_take decode_entry n rows) in
    let left = c.store_core.ensures ∙ (λ j. record s { core = core j; pending_marks = marks j }) in
    counted c.args.due r c.args.table.now _ n _ _ (omega arith)
    (drains_done r c.args.due rows e c.args.table.now f n (sym (c.in_ok-count.ensures ∙ ap (λ (k : ℕ). handout_of k (length c.args.table.now)) many)) c.copy_entries.new.table c.copy_entries.ensures _ left)

pub returns-in_err-count : goal.returns-in_err-count
returns-in_err-count c =
    let rows = c.as_slice-entries.result.now in
    let e = ap (map decode_entry) c.as_slice-entries.ensures ∙ c.entries-pending.ensures.same in
    let many = c.gone_count-many.ensures ∙ ap (λ (d : Option ℕ). gone_count c.args.due d (map decode_entry rows)) c.decode.ensures in
    let p = err_from_is_err_and c.from_residual.result c.from_residual.ensures.1 in
    rw (p.1, p.2) (drains_short c.args.self.now c.args.due rows e c.args.table.now _ (sym (c.in_err-count.ensures ∙ ap (λ (k : ℕ). handout_of k (length c.args.table.now)) many)))
