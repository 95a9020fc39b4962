-- `pick::picked`: those gathered are all that are chosen.
use Rattle.std.proofs.Common.{◌≡◌, Bool, min, map, length, take, sym, ap, ◌∙◌, arith}
use Rattle.std.proofs.lemmas.List.{take_min}
use Rattle.laws.specs.Lists.{keeping}
use Rattle.laws.proofs.Gathers.{keep_pass, keep_miss, keep_end}
use Rattle.laws.proofs.Lists.{map_take}
use Rattle.rows.specs.Entry.{decode_entry}
use Rattle.rows.specs.declared.entry.OpSendRow.{OpSendRow}
use Rattle.tables.proofs.Turns.{keeping_rows, listed_rows}
use Rattle.tables.proofs.pick.picked.Goals.{then-chooses, else-chooses}
use Rattle.tables.proofs.pick.picked.Goals as goal
use Rattle.queue.specs.Sizes.{pending_size}

pub loop-i-preserved : goal.loop-i-preserved
loop-i-preserved g c =
    let l = c.args.entries.now in
    let of_row : OpSendRow → Bool = λ r. g.C.Choice.chosen c.args.choice (decode_entry r) in
    let k = c.loop-i in
    elim c.if-chooses.branch [
      | then-chooses w ↦
          rw (w.items-is, w.len-is)
          (keep_pass pending_size of_row l _ (omega (arith, c.min-n.ensures)) (omega (arith, c.min-n.ensures)) k.items k.len k.i _ k.invariant (omega arith) (sym c.chooses.ensures ∙ w.if-chooses.true))
      | else-chooses w ↦
          rw (w.items-is, w.len-is)
          (keep_miss pending_size of_row l _ (omega (arith, c.min-n.ensures)) (omega (arith, c.min-n.ensures)) k.items k.len k.i _ k.invariant (omega arith) (sym c.chooses.ensures ∙ w.if-chooses.false))
    ]

pub returns : goal.returns
returns g c =
    let l = c.args.entries.now in
    let p = g.C.Choice.chosen c.args.choice in
    let of_row : OpSendRow → Bool = λ r. p (decode_entry r) in
    let k = c.loop-i in
    let q : c.min-n.result ≡ min pending_size (length l) = omega (arith, c.min-n.ensures) in
    let same =
    keep_end pending_size of_row l _ (omega (arith, c.min-n.ensures)) (omega (arith, c.min-n.ensures)) k.items k.len k.i k.invariant (omega arith)
    ∙ ap (λ i. keeping of_row (take i l)) q
    ∙ ap (keeping of_row) (take_min pending_size l) in
    listed_rows (keeping p (take pending_size (map decode_entry l))) _ (omega (arith, k.invariant.len, k.invariant.low, k.invariant.high, c.min-n.ensures))
    (ap (map decode_entry) same ∙ keeping_rows p (take pending_size l) ∙ ap (keeping p) (map_take decode_entry pending_size l))
