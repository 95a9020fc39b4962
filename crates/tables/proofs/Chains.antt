-- What chains of iterators and loops over entries make, as the definitions have it. Assumes nothing.
use Rattle.std.proofs.Common.{◌≡◌, ℕ, suc, ◌+◌, ◌^◌, ◌<◌, ◌≤◌, Bool, true, false, List, [], ◌∷◌, map, length, drop, refl, ◌∙◌, arith, cond}
use Rattle.std.proofs.lemmas.List.Folds.{length-prefix_len}
use Rattle.std.specs.Prelude.{Option}
use Rattle.std.specs.List.{fold, take_while, prefix_len}
use Rattle.laws.specs.Choice.{pick}
use Rattle.laws.specs.Numbers.{add_sat}
use Rattle.rows.specs.Entry.{decode_entry}
use Rattle.rows.specs.declared.entry.OpSendRow.{OpSendRow}
use Rattle.queue.specs.Settle.{due_count}
use Rattle.queue.specs.Tables.{all_well_formed, frames_of, frames_for}
use Rattle.tables.specs.Drain.{due_row}

-- all entries before i are well formed
pub record Tested (l : List OpSendRow) (i : ℕ) : Type 0 where
  pub low : i ≤ length l
  pub left : all_well_formed (map decode_entry (drop i l)) ≡ all_well_formed (map decode_entry l)

-- one entry's frames are added
abbrev pub plus : ℕ → OpSendRow → ℕ
plus sum op = add_sat sum (frames_of (decode_entry op).publish.replay)

pub added : (sum : ℕ) (l : List OpSendRow) → sum < 2 ^ 64 → fold plus sum l ≡ add_sat sum (frames_for (map decode_entry l))
added sum [] h = omega arith
added sum (op ∷ l) h =
    let f : ℕ = frames_of (decode_entry op).publish.replay in
    let r : ℕ = frames_for (map decode_entry l) in
    let e : add_sat (add_sat sum f) r ≡ add_sat sum (f + r) = omega arith in
    added (add_sat sum f) l (omega arith) ∙ e

pub due_while : (time : ℕ) (timeout : Option ℕ) (l : List OpSendRow) → length (take_while (due_row time timeout) l) ≡ due_count time timeout (map decode_entry l)
due_while time timeout l = length-prefix_len (due_row time timeout) l ∙ go l
  where
    next : (b : Bool) (m n : ℕ) → m ≡ n → cond b (1 + m) 0 ≡ pick b (suc n) 0
    next true m n e = omega arith
    next false m n e = refl

    go : (ops : List OpSendRow) → prefix_len (due_row time timeout) ops ≡ due_count time timeout (map decode_entry ops)
    go [] = refl
    go (op ∷ ops) = next (due_row time timeout op) (prefix_len (due_row time timeout) ops) (due_count time timeout (map decode_entry ops)) (go ops)
