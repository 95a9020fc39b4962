-- The loops over entries: for each an invariant, that says what is left to do, with how it begins, goes on and ends. Assumes nothing.
use Rattle.std.proofs.Common.{◌≡◌, ℕ, ◌≤◌, Bool, true, false, not, List, [], ◌∷◌, map, length, take, drop, sym, refl, ap, ◌∙◌, length-take-le}
use lib.ListN.{length-map}
use Rattle.laws.specs.Choice.{pick}
use Rattle.laws.specs.Lists.{keeping}
use Rattle.types.specs.declared.entry.OpSend.{OpSend}
use Rattle.types.specs.declared.types.SequenceId.{SequenceId}
use Rattle.queue.specs.Tables.{is_batched}
use Rattle.rows.specs.Entry.{decode_entry}
use Rattle.rows.specs.declared.entry.OpSendRow.{OpSendRow}
use Rattle.tables.specs.Drain.{cleared_each}
use Rattle.tables.specs.Picked.{is_kind, kind_of, Lists, ListsRows}
use Rattle.tables.specs.declared.list.Listed.{Listed}

-- ── ids that leave the index: those up to i have ──

pub record Gone (l : List OpSendRow) (ids : List SequenceId) (marks₀ marks : List ℕ) (i : ℕ) : Type 0 where
  pub low : i ≤ length l
  pub left : cleared_each (map decode_entry (drop i l)) ids marks ≡ cleared_each (map decode_entry l) ids marks₀

-- ── the entries of one kind are those that pass a test ──

pub kept_kind : (b : Bool) (l : List OpSend) → keeping (is_kind b) l ≡ kind_of b l
kept_kind true [] = refl
kept_kind true (op ∷ l) = ap (λ (r : List OpSend). pick (is_batched op.publish.replay) (op ∷ r) r) (kept_kind true l)
kept_kind false [] = refl
kept_kind false (op ∷ l) =
    turned (is_batched op.publish.replay)
    ∙ ap (λ (r : List OpSend). pick (is_batched op.publish.replay) r (op ∷ r)) (kept_kind false l)
  where
    turned : (x : Bool) → pick (not x) (op ∷ keeping (is_kind false) l) (keeping (is_kind false) l) ≡ pick x (keeping (is_kind false) l) (op ∷ keeping (is_kind false) l)
    turned true = refl
    turned false = refl

-- ── lists in arrays ──

pub listed : {A : Type 0} {n : ℕ} (l : List A) (r : Listed A n) → r.len ≤ length r.items → take r.len r.items ≡ l → Lists l r
listed l r h e = record { same = e; many = sym (length-take-le r.len r.items h) ∙ ap length e }

pub listed_rows : {n : ℕ} (l : List OpSend) (r : Listed OpSendRow n) → r.len ≤ length r.items → map decode_entry (take r.len r.items) ≡ l → ListsRows l r
listed_rows l r h e =
    record { same = e; many = sym (length-take-le r.len r.items h) ∙ sym (length-map (take r.len r.items) decode_entry) ∙ ap length e }

-- those of the rows that are chosen stand for the chosen entries
pub keeping_rows : (p : OpSend → Bool) (l : List OpSendRow) → map decode_entry (keeping (λ r. p (decode_entry r)) l) ≡ keeping p (map decode_entry l)
keeping_rows p [] = refl
keeping_rows p (r ∷ l) = go (p (decode_entry r)) (keeping_rows p l)
  where
    go : (b : Bool) → map decode_entry (keeping (λ x. p (decode_entry x)) l) ≡ keeping p (map decode_entry l)
        → map decode_entry (pick b (r ∷ keeping (λ x. p (decode_entry x)) l) (keeping (λ x. p (decode_entry x)) l))
        ≡ pick b (decode_entry r ∷ keeping p (map decode_entry l)) (keeping p (map decode_entry l))
    go true e = ap (λ (m : List OpSend). decode_entry r ∷ m) e
    go false e = e
