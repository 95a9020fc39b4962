-- The entries of one kind.
use Rattle.std.specs.Prelude.{◌≡◌, ℕ, Bool, not, List, length, map, take}
use Rattle.laws.specs.Choice.{pick}
use Rattle.types.specs.declared.entry.OpSend.{OpSend}
use Rattle.queue.specs.Tables.{is_batched, batched_of, framed_of}
use Rattle.rows.specs.Entry.{decode_entry}
use Rattle.rows.specs.declared.entry.OpSendRow.{OpSendRow}
use Rattle.tables.specs.declared.list.Listed.{Listed}

abbrev pub same_as : Bool → Bool → Bool
same_as batched is = pick batched is (not is)

-- the batched ones, or the others
abbrev pub kind_of : Bool → List OpSend → List OpSend
kind_of batched l = pick batched (batched_of l) (framed_of l)

-- an entry is of the kind
abbrev pub is_kind : Bool → OpSend → Bool
is_kind batched op = same_as batched (is_batched op.publish.replay)

-- the array starts with a list, and tells how long it is
pub record Lists {A : Type 0} {n : ℕ} (l : List A) (r : Listed A n) : Type 0 where
  pub same : take r.len r.items ≡ l
  pub many : r.len ≡ length l

-- the same of entries as rows
pub record ListsRows {n : ℕ} (l : List OpSend) (r : Listed OpSendRow n) : Type 0 where
  pub same : map decode_entry (take r.len r.items) ≡ l
  pub many : r.len ≡ length l
