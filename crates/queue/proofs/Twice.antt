-- The second reconnect changes nothing: a replay looks at no mark, and a snapshot after a replay hands out just what was replayed.
use Prim.Native.Nat.{ℕ, ◌+◌, ◌≤◌}
use mathlib.Core.Path.{◌≡◌, refl, sym, ap, ◌∙◌}
use mathlib.Core.Bool.{Bool, true, false, not}
use mathlib.Core.List.{List, [], ◌∷◌, ◌++◌, append-nil, map}
use native.Mathlib.Omega.{arith}
use lib.ListN.{length, length-map}
use lib.Dec.{ltb}
use borrow.Author.Tests.{le-ltb}
use Rattle.laws.specs.Choice.{pick}
use Rattle.types.specs.declared.entry.OpSend.{OpSend}
use Rattle.queue.specs.Queue.{Queue, Outcome, Outgoing, done, refuse, with_pending, with_out}
use Rattle.queue.specs.Batch.{too_many}
use Rattle.queue.specs.Settle.{handed}
use Rattle.queue.specs.Sizes.{pending_size}
use Rattle.queue.specs.Tables.{is_batched, batched_of, framed_of, frames_of, frames_for, again, mark, all_well_formed, fronted, put_back, snapped, snapshot_pending_sends, replay_snapshots}
use Rattle.queue.specs.Restore.{TwiceRule}
use Rattle.laws.proofs.Choice.{differ}
use Rattle.queue.proofs.Restore.{framed_again, snapshot_is}

-- ── what a replay makes of a table does not hang on its marks ──

formed_marked : (l : List OpSend) → all_well_formed (map mark l) ≡ all_well_formed l
formed_marked [] = refl
formed_marked (op ∷ l) = rw (formed_marked l)

frames_marked : (l : List OpSend) → frames_for (map mark l) ≡ frames_for l
frames_marked [] = refl
frames_marked (op ∷ l) = ap (λ n. frames_of op.publish.replay + n) (frames_marked l)

framed_marked : (l : List OpSend) → framed_of (map mark l) ≡ map mark (framed_of l)
framed_marked [] = refl
framed_marked (op ∷ l) = go (is_batched op.publish.replay) (framed_marked l)
  where
    go : (b : Bool) → framed_of (map mark l) ≡ map mark (framed_of l)
        → pick b (framed_of (map mark l)) (mark op ∷ framed_of (map mark l)) ≡ map mark (pick b (framed_of l) (op ∷ framed_of l))
    go true h = h
    go false h = ap (λ x. mark op ∷ x) h

again_marked : (l : List OpSend) → map again (map mark l) ≡ map again l
again_marked [] = refl
again_marked (op ∷ l) = ap (λ x. again op ∷ x) (again_marked l)

marked_once : (l m : List OpSend) → map mark (map mark l ++ m) ≡ map mark (l ++ m)
marked_once [] m = refl
marked_once (op ∷ l) m = ap (λ x. mark op ∷ x) (marked_once l m)

fronted_marked : (l : List OpSend) (o : Outgoing) → fronted (map mark l) o ≡ fronted l o
fronted_marked l o =
    let records : map again (framed_of (map mark l)) ≡ map again (framed_of l) = ap (map again) (framed_marked l) ∙ again_marked (framed_of l) in
    rw (records, frames_marked l)

marks_ignored : (l : List OpSend) (q : Queue) → replay_snapshots (map mark l) q ≡ replay_snapshots l q
unfolding replay_snapshots
marks_ignored l q =
    λ j. pick (not (formed_marked l j)) (refuse 12 q)
    (pick (ltb pending_size (length-map l mark j + length q.pending)) (refuse 7 q)
    (pick (too_many (frames_marked l j) q) (refuse 4 q) (with_out (fronted_marked l q.out j) (with_pending (marked_once l q.pending j) q), done tt)))

-- ── an accepted replay, and the snapshot after it ──

accepted : (l : List OpSend) (q r : Queue) → replay_snapshots l q ≡ (r, done tt) → r ≡ put_back l q
unfolding replay_snapshots
accepted l q r e = go (not (all_well_formed l)) (ltb pending_size (length l + length q.pending)) (too_many (frames_for l) q) e
  where
    go : (a b c : Bool) → pick {A = Outcome (Unit {0})} a (refuse 12 q) (pick b (refuse 7 q) (pick c (refuse 4 q) (put_back l q, done tt))) ≡ (r, done tt)
        → r ≡ put_back l q
    go true b c e = differ (cc (ap (λ x. x.1) e))
    go false true c e = differ (cc (ap (λ x. x.1) e))
    go false false true e = differ (cc (ap (λ x. x.1) e))
    go false false false e = sym (ap (λ x. x.0) e)

none_batched : (l : List OpSend) → batched_of (map mark (framed_of l)) ≡ []
none_batched [] = refl
none_batched (op ∷ l) = go (is_batched op.publish.replay) refl (none_batched l)
  where
    go : (b : Bool) → is_batched op.publish.replay ≡ b → batched_of (map mark (framed_of l)) ≡ []
        → batched_of (map mark (pick b (framed_of l) (op ∷ framed_of l))) ≡ []
    go true e h = h
    go false e h = rw (e, h)

all_framed : (l : List OpSend) → framed_of (map mark (framed_of l)) ≡ map mark (framed_of l)
all_framed l = framed_marked (framed_of l) ∙ ap (map mark) (framed_again l)

-- a snapshot that finds no batched entry
snapshot_of : (droppedRoom replayRoom : ℕ) (q : Queue) (l : List OpSend) → batched_of q.pending ≡ [] → framed_of q.pending ≡ l → length l ≤ replayRoom
    → snapshot_pending_sends droppedRoom replayRoom q ≡ (snapped q, done (handed [], handed l))
unfolding snapshot_pending_sends
snapshot_of droppedRoom replayRoom q l b f h = rw (b, f, le-ltb droppedRoom 0 (omega arith), le-ltb replayRoom (length l) h)

-- the queue that an accepted replay leaves after a snapshot; a second snapshot takes it back to the first's
module _ (q : Queue) where
  abbrev again_all : List OpSend
  again_all = framed_of q.pending

  abbrev first_of : Queue
  first_of = put_back again_all (snapped q)

  pending_is : first_of.pending ≡ map mark again_all
  pending_is = ap (map mark) (append-nil again_all)

  no_batched : batched_of first_of.pending ≡ []
  no_batched = ap batched_of pending_is ∙ none_batched q.pending

  framed_is : framed_of first_of.pending ≡ map mark again_all
  framed_is = ap framed_of pending_is ∙ all_framed q.pending

  snapped_again : snapped first_of ≡ snapped q
  snapped_again =
      let none : length (batched_of first_of.pending) ≡ 0 = ap length no_batched in
      let sum : (snapped first_of).counters.total_send_failed ≡ (snapped q).counters.total_send_failed = omega arith in
      λ j.
      record (snapped q) {
        counters = record (snapped q).counters { total_send_failed = sum j };
      }

pub twice_rule : TwiceRule
twice_rule q p first droppedRoom replayRoom droppedRoom₂ replayRoom₂ dropped table e f room =
    let s = snapshot_is droppedRoom replayRoom q p (handed dropped, handed table) e in
    let l = framed_of q.pending in
    let kept : table ≡ l = ap (λ t. t.1.entries) s.tables_are in
    let f₁ : replay_snapshots l (snapped q) ≡ (first, done tt) = rw (kept, s.queue) at f in
    let at_first : first ≡ first_of q = accepted l (snapped q) first f₁ in
    let same : snapped first ≡ p = ap snapped at_first ∙ snapped_again q ∙ sym s.queue in
    let none : batched_of first.pending ≡ [] = ap (λ x. batched_of x.pending) at_first ∙ no_batched q in
    let marked : framed_of first.pending ≡ map mark table = ap (λ x. framed_of x.pending) at_first ∙ framed_is q ∙ ap (map mark) (sym kept) in
    let many : length (map mark table) ≡ length table = length-map table mark in
    let fits : length (map mark table) ≤ replayRoom₂ = omega arith in
    record {
      between = snapped first;
      snapshot = snapshot_of droppedRoom₂ replayRoom₂ first (map mark table) none marked fits;
      replay = marks_ignored table (snapped first) ∙ ap (replay_snapshots table) same ∙ f;
    }
