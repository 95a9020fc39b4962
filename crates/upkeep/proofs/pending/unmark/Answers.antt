-- `upkeep::pending::unmark`: one more mark is cleared, or stays.
use Rattle.std.proofs.Common.{sym, ◌∙◌, arith}
use Rattle.upkeep.proofs.Keys.{clear_hit, clear_miss, cleared_end}
use Rattle.upkeep.proofs.pending.unmark.Goals as goal
use Rattle.upkeep.proofs.pending.unmark.Goals.{then-eq, else-eq}

pub loop-i-preserved : goal.loop-i-preserved
loop-i-preserved c =
    let a = c.args in
    let k = c.loop-i in
    elim c.if-eq.branch [
      | then-eq w ↦ (omega arith, rw w.marks-is (clear_hit a.id.0 a.ids.now a.marks.now k.marks k.i (omega arith) k.invariant.1 (omega (arith, k.invariant.0)) (sym c.eq.ensures ∙ w.if-eq.true)))
      | else-eq w ↦ (omega arith, rw w.marks-is (clear_miss a.id.0 a.ids.now a.marks.now k.marks k.i (omega arith) k.invariant.1 (omega (arith, k.invariant.0)) (sym c.eq.ensures ∙ w.if-eq.false)))
    ]

pub returns : goal.returns
returns c =
    let a = c.args in
    cleared_end a.id.0 a.ids.now a.marks.now c.loop-i.marks c.loop-i.i (omega arith) c.loop-i.invariant.1
