-- The size of a chunk is a choice on numbers; no call but a send reads the headroom, so another one is carried through. Assumes nothing.
use Prim.Native.Nat.{ℕ, ◌+◌, ◌*◌, ◌≤◌}
use mathlib.Core.Bool.{not, ◌||◌}
use mathlib.Core.Path.{◌≡◌, refl}
use mathlib.Core.List.{List, [], ◌∷◌}
use lib.ListN.{length}
use native.Mathlib.Omega.{arith}
use lib.Dec.{ltb}
use Rattle.laws.proofs.Choice.{pick_ind, pick_through}
use Rattle.types.specs.declared.entry.OpSend.{OpSend}
use Rattle.types.specs.declared.frame.FrameRecord.{FrameRecord}
use Rattle.queue.specs.Sizes.{pending_size}
use Rattle.queue.specs.Queue.{Queue, Outcome, done, refuse, with_out}
use Rattle.queue.specs.Batch.{too_many}
use Rattle.queue.specs.Frame.{first_frame, frame_in}
use Rattle.queue.specs.Headroom.{DefaultTold, WithinLimit, at_headroom, CutKept}
use Rattle.queue.specs.Take.{after_take, take_from, next_outbound_frame}
use Rattle.queue.specs.Settle.{handed}
use Rattle.queue.specs.Tables.{batched_of, framed_of, snapped, frames_for, fronted, put_back, all_well_formed, unborne, snapshot_pending_sends, replay_snapshots, replay_pending_outbound}

pub default_told : DefaultTold
default_told limit = refl

pub within_limit : WithinLimit
within_limit headroom limit = pick_ind (λ n. n ≤ limit) (ltb (4 * headroom) limit) _ _ (λ e. omega arith) (λ e. omega arith)

-- the outcome of a call, its queue under another headroom
moved : {A : Type 0} → ℕ → Outcome A → Outcome A
moved n r = (at_headroom n r.0, r.1)

leaf : {A : Type 0} (n : ℕ) (r : Outcome A) → (at_headroom n r.0, r.1) ≡ moved n r
unfolding moved
leaf n r = refl

module _ (n : ℕ) (q : Queue) where
  take_kept : (store : List ℕ) (room : ℕ) (rs : List FrameRecord) → take_from store room (at_headroom n q) rs ≡ moved n (take_from store room q rs)
  take_kept store room [] = leaf n (refuse 10 q)
  take_kept store room (r ∷ rs) =
      let f = first_frame store q.handle r r.kind q.out.held in
      pick_through (moved n) (frame_in (length store) r r.kind q.out.held) _ _ _ _
      (pick_through (moved n) (ltb room (length f.payload)) _ _ _ _ (leaf n (refuse 9 q)) (leaf n (with_out (after_take r rs q.out) q, done f)))
      (leaf n (refuse 2 q))

  snapshot_kept : (droppedRoom replayRoom : ℕ)
      → snapshot_pending_sends droppedRoom replayRoom (at_headroom n q) ≡ moved n (snapshot_pending_sends droppedRoom replayRoom q)
  unfolding snapshot_pending_sends
  snapshot_kept droppedRoom replayRoom =
      let dropped = batched_of q.pending in
      let kept = framed_of q.pending in
      pick_through (moved n) (ltb droppedRoom (length dropped) || ltb replayRoom (length kept)) _ _ _ _
      (leaf n (refuse 9 q))
      (leaf n (snapped q, done (handed dropped, handed kept)))

  replay_kept : (l : List OpSend) → replay_snapshots l (at_headroom n q) ≡ moved n (replay_snapshots l q)
  unfolding replay_snapshots
  replay_kept l =
      pick_through (moved n) (not (all_well_formed l)) _ _ _ _
      (leaf n (refuse 12 q))
      (pick_through (moved n) (ltb pending_size (length l + length q.pending)) _ _ _ _
      (leaf n (refuse 7 q))
      (pick_through (moved n) (too_many (frames_for l) q) _ _ _ _ (leaf n (refuse 4 q)) (leaf n (put_back l q, done tt))))

  resend_kept : replay_pending_outbound (at_headroom n q) ≡ moved n (replay_pending_outbound q)
  unfolding replay_pending_outbound
  resend_kept =
      let l = unborne q.out.frames q.pending in
      pick_through (moved n) (too_many (frames_for l) q) _ _ _ _
      (leaf n (refuse 4 q))
      (leaf n (with_out (fronted l q.out) q, done (frames_for l)))

pub cut_kept : CutKept
unfolding moved next_outbound_frame
cut_kept =
    record {
      takes = λ room store n q. take_kept n q store room q.out.frames;
      snapshots = λ droppedRoom replayRoom store n q. snapshot_kept n q droppedRoom replayRoom;
      replays = λ entries store n q. replay_kept n q entries;
      resends = λ store n q. resend_kept n q;
    }
