-- The index is rebuilt: with every mark set, each entry is marked. Assumes nothing.
use Rattle.std.proofs.Common.{◌≡◌, ℕ, Bool, true, not, ◌&&◌, eqb, List, [], ◌∷◌, map, length, sym, refl, ap, ◌∙◌, arith}
use Rattle.laws.specs.Ring.{ring}
use Rattle.laws.proofs.Choice.{and_left, and_right}
use Rattle.laws.proofs.Rings.{ring_map}
use Rattle.types.specs.declared.entry.OpSend.{OpSend}
use Rattle.types.specs.declared.entry.Publish.{Publish}
use Rattle.types.specs.declared.types.SequenceId.{SequenceId}
use Rattle.queue.specs.Queue.{with_pending}
use Rattle.queue.specs.Sizes.{pending_size}
use Rattle.queue.specs.Tables.{mark}
use Rattle.producer.specs.View.{queue_of, entries, slots_of}
use Rattle.producer.specs.State.{State}
use Rattle.producer.proofs.Full.{Full}

-- every mark is set
abbrev pub all_set : List ℕ → Bool
all_set [] = true
all_set (n ∷ ns) = not (eqb n 0) && all_set ns

marked_entries : (is : List SequenceId) (ms ns : List ℕ) (ps : List Publish) → length ns ≡ length ms → all_set ns ≡ true → entries is ns ps ≡ map mark (entries is ms ps)
marked_entries [] ms ns ps e h = refl
marked_entries (i ∷ is) [] [] ps e h = refl
marked_entries (i ∷ is) [] (n ∷ ns) ps e h = absurd (omega arith)
marked_entries (i ∷ is) (m ∷ ms) [] ps e h = absurd (omega arith)
marked_entries (i ∷ is) (m ∷ ms) (n ∷ ns) [] e h = refl
marked_entries (i ∷ is) (m ∷ ms) (n ∷ ns) (p ∷ ps) e h =
    let first : not (eqb n 0) ≡ true = and_left (not (eqb n 0)) (all_set ns) h in
    let rest : entries is ns ps ≡ map mark (entries is ms ps) = marked_entries is ms ns ps (omega arith) (and_right (not (eqb n 0)) (all_set ns) h) in
    λ j. record { sequence_id = i; answerable = first j; publish = p } ∷ rest j

abbrev pub with_marks : List ℕ → State → State
with_marks ns s =
    record {
      core = s.core;
      outbound = s.outbound;
      held = s.held;
      pending = s.pending;
      pending_ids = s.pending_ids;
      pending_marks = ns;
    }

pub marks_all : (s : State) → Full s → (ns : List ℕ) → length ns ≡ pending_size → all_set ns ≡ true
    → queue_of (with_marks ns s) ≡ with_pending (map mark (queue_of s).pending) (queue_of s)
unfolding queue_of
marks_all s f ns len h =
    let head = s.core.rings.pending.head in
    let n = s.core.rings.pending.len in
    let e : ring pending_size (entries s.pending_ids ns s.pending) head n ≡ map mark (ring pending_size (slots_of s) head n) =
    ap (λ (l : List OpSend). ring pending_size l head n) (marked_entries s.pending_ids s.pending_marks ns s.pending (len ∙ sym f.marks) h)
    ∙ sym (ring_map mark pending_size (slots_of s) head n) in
    λ j. with_pending (e j) (queue_of s)
