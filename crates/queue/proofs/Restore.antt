-- A snapshot's table can be replayed: its entries are well formed, as all pending ones are, and their ids are those of the frames that it fronts.
use Prim.Native.Nat.{ℕ, ◌+◌, ◌≤◌}
use mathlib.Core.Path.{◌≡◌, refl, sym, ap}
use mathlib.Core.Bool.{Bool, true, false, ◌||◌}
use mathlib.Core.List.{List, [], ◌∷◌, ◌++◌, append-nil, append_assoc, map}
use native.Mathlib.Omega.{arith}
use lib.ListN.{length}
use lib.Dec.{eqb, ltb}
use borrow.Author.Tests.{eq-eqb, le-ltb}
use Rattle.laws.specs.Choice.{pick}
use Rattle.laws.specs.Numbers.{add_sat}
use Rattle.types.specs.Empty.{empty_batch}
use Rattle.types.specs.declared.entry.OpSend.{OpSend}
use Rattle.wire.specs.Batch.{All}
use Rattle.queue.specs.Queue.{Queue, Outcome, done, refuse, new_queue, with_pending, with_out}
use Rattle.queue.specs.Settle.{Handed, handed}
use Rattle.queue.specs.Sizes.{outbound_size, pending_size}
use Rattle.queue.specs.Tables.{is_batched, batched_of, framed_of, frames_for, again, mark, borne, unborne, snapped, snapshot_pending_sends, replay_snapshots, replay_pending_outbound}
use Rattle.queue.specs.Run.{after}
use Rattle.queue.specs.Restore.{RestoreRule}
use Rattle.laws.proofs.Choice.{pick_ind, differ}
use Rattle.laws.proofs.Pushes.{front_room}
use Rattle.queue.proofs.Sound.{waits_length}
use Rattle.queue.proofs.Entries.{EachFormed, formed_all, framed_all, again_all}
use Rattle.queue.proofs.Reached.{run_well, new_well}

-- ── the entries of the table ──

framed_fewer : (l : List OpSend) → length (framed_of l) ≤ length l
framed_fewer [] = omega arith
framed_fewer (op ∷ l) =
    let d = framed_fewer l in
    pick_ind (λ (x : List OpSend). length x ≤ length (op ∷ l)) (is_batched op.publish.replay) (framed_of l) (op ∷ framed_of l)
    (λ e. omega arith)
    (λ e. omega arith)

pub framed_again : (l : List OpSend) → framed_of (framed_of l) ≡ framed_of l
framed_again [] = refl
framed_again (op ∷ l) = go (is_batched op.publish.replay) refl (framed_again l)
  where
    go : (b : Bool) → is_batched op.publish.replay ≡ b → framed_of (framed_of l) ≡ framed_of l
        → framed_of (pick b (framed_of l) (op ∷ framed_of l)) ≡ pick b (framed_of l) (op ∷ framed_of l)
    go true e again = again
    go false e again = rw (e, again)

all_answerable : (l : List OpSend) → All (λ op. op.answerable ≡ true) (map mark l)
all_answerable [] = tt
all_answerable (op ∷ l) = (refl, all_answerable l)

-- ── no id of theirs is without a frame ──

or_true : (b : Bool) → (b || true) ≡ true
or_true true = refl
or_true false = refl

borne_at : (before : List OpSend) (op : OpSend) (l : List OpSend) → borne op.sequence_id.0 (map again (before ++ op ∷ l)) ≡ true
borne_at [] op l = rw (eq-eqb op.sequence_id.0 op.sequence_id.0 refl)
borne_at (x ∷ before) op l = rw (borne_at before op l) (or_true (eqb x.sequence_id.0 op.sequence_id.0))

all_borne : (before l : List OpSend) → unborne (map again (before ++ l)) (map mark l) ≡ []
all_borne before [] = refl
all_borne before (op ∷ l) =
    let more : unborne (map again ((before ++ op ∷ []) ++ l)) (map mark l) ≡ [] = all_borne (before ++ op ∷ []) l in
    rw (borne_at before op l) (rw (append_assoc before (op ∷ []) l) at more)

-- ── the two calls ──

-- the queue after the replay of a table
abbrev restored : List OpSend → Queue → Queue
restored l q =
    with_out (record { frames = map again l; waiting = frames_for l; held = []; batch = empty_batch }) (with_pending (map mark l) (snapped q))

pub record Snapped (q p : Queue) (tables : Handed × Handed) : Type 0 where
  pub queue : p ≡ snapped q
  pub tables_are : tables ≡ (handed (batched_of q.pending), handed (framed_of q.pending))

pub snapshot_is : (droppedRoom replayRoom : ℕ) (q p : Queue) (tables : Handed × Handed) → snapshot_pending_sends droppedRoom replayRoom q ≡ (p, done tables)
    → Snapped q p tables
unfolding snapshot_pending_sends
snapshot_is droppedRoom replayRoom q p tables e =
    go (ltb droppedRoom (length (batched_of q.pending)) || ltb replayRoom (length (framed_of q.pending))) e
  where
    go : (b : Bool)
        → pick {A = Outcome (Handed × Handed)} b (refuse 9 q) (snapped q, done (handed (batched_of q.pending), handed (framed_of q.pending))) ≡ (p, done tables)
        → Snapped q p tables
    go true e = differ (cc (ap (λ x. x.1) e))
    go false e =
        let written : Handed × Handed = (handed (batched_of q.pending), handed (framed_of q.pending)) in
        let given : tables ≡ written = cc (ap (λ x. x.1) e) in
        record { queue = sym (ap (λ x. x.0) e); tables_are = given }

module _ (q : Queue) (l : List OpSend) (formed : EachFormed l) (framed : framed_of l ≡ l) (few : length l ≤ pending_size) (room : frames_for l ≤ outbound_size) where
  replay_is : replay_snapshots l (snapped q) ≡ (restored l q, done tt)
  unfolding replay_snapshots
  replay_is =
      let x = again_all l formed in
      let waits : length (map again l) ≤ frames_for l = rw framed at (rw x.counted at (waits_length (map again (framed_of l)) x.each)) in
      let sum : add_sat (frames_for l) 0 ≡ frames_for l = omega arith in
      rw (
        formed_all l formed,
        le-ltb pending_size (length l + 0) (omega arith),
        le-ltb outbound_size (0 + frames_for l) (omega arith),
        framed,
        front_room outbound_size (map again l) [] (omega arith),
        append-nil (map again l),
        append-nil l,
        sum,
      )

  once_only : replay_pending_outbound (restored l q) ≡ (restored l q, done 0)
  unfolding replay_pending_outbound
  once_only =
      let sum : add_sat 0 (frames_for l) ≡ frames_for l = omega arith in
      rw (all_borne [] l, le-ltb outbound_size (frames_for l + 0) (omega arith), sum)

pub restore_rule : RestoreRule
restore_rule store handle cs is64 droppedRoom replayRoom p d r e room =
    let q = after store (new_queue handle) cs in
    let l = framed_of q.pending in
    let k = run_well store cs (new_queue handle) (new_well handle) is64 in
    let s = snapshot_is droppedRoom replayRoom q p (handed d, handed r) e in
    let kept : r ≡ l = ap (λ t. t.1.entries) s.tables_are in
    let formed = framed_all _ q.pending k.pending.formed in
    let few : length l ≤ pending_size = omega (arith, framed_fewer q.pending, k.pending.few) in
    let fits : frames_for l ≤ outbound_size = rw kept at room in
    let is : replay_snapshots r p ≡ (restored l q, done tt) =
    rw (kept, s.queue) (replay_is q l formed (framed_again q.pending) few fits) in
    let once = once_only q l formed (framed_again q.pending) few fits in
    record {
      dropped = ap (λ t. t.0.entries) s.tables_are;
      kept = kept;
      carried_out = ap (λ x. x.1) is;
      pending = rw (is, kept);
      answerable = rw is (all_answerable l);
      frames = rw (is, kept);
      waiting = rw (is, kept);
      once = rw is once;
    }
