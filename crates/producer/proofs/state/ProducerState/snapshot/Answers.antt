-- `ProducerState::snapshot`: what is planned is what the definitions hand out in the two tables.
use Rattle.std.proofs.Common.{map, ap, ◌∙◌, sym, arith}
use Rattle.std.proofs.lemmas.Result.{err_from_is_err_and}
use Rattle.rows.specs.Entry.{decode_entry}
use Rattle.tables.specs.Scalars.{core_snapshot}
use Rattle.plans.specs.declared.state.Core.{Core}
use Rattle.producer.specs.Apply.{store_core}
use Rattle.producer.specs.State.{state_of}
use Rattle.producer.proofs.Snapshots.{snaps_short, snaps_done, counted, planned_by}
use Rattle.producer.proofs.state.ProducerState.snapshot.Goals as goal

pub returns : goal.returns
returns c =
    let r = c.args.self.now in
    let k = c.in_ok-counts.counts in
    let core = c.after_snapshot-core.ensures ∙ λ j. core_snapshot k.dropped (c.decode.ensures j) in
    let left = c.store_core.ensures ∙ ap (λ (x : Core). store_core x (state_of r)) core in
    counted r c.args.dropped.now c.args.replay.now _ k _ _ _ (omega arith) (omega arith)
    (snaps_done r c.args.dropped.now c.args.replay.now k
    (planned_by r c.args.dropped.now c.args.replay.now c.of_kind-batched.result c.of_kind-framed.result c.of_kind-batched.ensures c.of_kind-framed.ensures ∙ sym c.in_ok-counts.ensures)
    _ _ c.copy_entries.new.table c.copy_entries-2.new.table
    (ap (map decode_entry) c.as_slice.ensures ∙ c.of_kind-batched.ensures.same)
    (ap (map decode_entry) c.as_slice-2.ensures ∙ c.of_kind-framed.ensures.same)
    c.copy_entries.ensures c.copy_entries-2.ensures _ left)

pub returns-in_err-counts : goal.returns-in_err-counts
returns-in_err-counts c =
    let r = c.args.self.now in
    let p = err_from_is_err_and c.from_residual.result c.from_residual.ensures.1 in
    rw (p.1, p.2)
    (snaps_short r c.args.dropped.now c.args.replay.now _
    (planned_by r c.args.dropped.now c.args.replay.now c.of_kind-batched.result c.of_kind-framed.result c.of_kind-batched.ensures c.of_kind-framed.ensures ∙ sym c.in_err-counts.ensures))
