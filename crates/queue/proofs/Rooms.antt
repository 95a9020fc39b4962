-- No push finds a full list: the records are no more than the waiting frames, and the refusals count those.
use Prim.Native.Nat.{ℕ, ◌+◌, ◌≤◌}
use mathlib.Core.Path.{◌≡◌, refl}
use mathlib.Core.Bool.{not}
use mathlib.Core.List.{List, map}
use native.Mathlib.Omega.{arith}
use lib.ListN.{length, length-drop, length-map}
use lib.Dec.{ltb}
use borrow.Author.Tests.{ltb-false, leb-false, not-false}
use Rattle.types.specs.declared.entry.OpSend.{OpSend}
use Rattle.types.specs.declared.message.OutgoingMessage.{OutgoingMessage}
use Rattle.types.specs.declared.way.Way.{Way}
use Rattle.types.specs.declared.way.Way.TheVariants as way
use Rattle.queue.specs.Queue.{Queue, Outcome, done, new_queue}
use Rattle.queue.specs.Batch.{is_empty, too_many, flush_batch}
use Rattle.queue.specs.Send.{one, joins, is_too_large, go, flushes_before, way_of}
use Rattle.queue.specs.Sizes.{outbound_size, held_size, pending_size}
use Rattle.queue.specs.Tables.{framed_of, frames_for, again, all_well_formed, unborne, replay_snapshots, replay_pending_outbound}
use Rattle.queue.specs.Run.{Call, send, flush, take, receipt, send_error, timeouts, initial_id, set, set_name, close, query, drain, snapshot, replay, resend, after}
use Rattle.queue.specs.Reachable.{records, HasRoom, FindsRoom, ReachableRule}
use Rattle.laws.proofs.Choice.{pick_ind, differ}
use Rattle.queue.proofs.Sound.{waits_length, records_fit}
use Rattle.queue.proofs.Moves.{Well}
use Rattle.queue.proofs.Entries.{EachFormed, all_well_formed_lem, unborne_all, again_all, some_chunk}
use Rattle.queue.proofs.Reached.{ChunkCount, way_chunks, Passed, plan_cases, run_well, new_well}

module _ (store : List ℕ) (q : Queue) (k : Well q) where
  send_room : (m : OutgoingMessage) (w : Way) → ChunkCount m w → Passed w q → HasRoom q (records w) (one (joins w)) (one (not (is_too_large w)))
  send_room m (way.TooLarge before) c p =
      record {
        frames = omega (arith, records_fit q.out k.out, p.frames);
        held = omega (arith, k.out.held);
        pending = omega (arith, k.pending.few);
      }
  send_room m (way.Join before after) c p =
      record {
        frames = omega (arith, records_fit q.out k.out, p.frames);
        held = omega (arith, leb-false held_size (length q.out.held) p.held);
        pending = omega (arith, p.pending refl);
      }
  send_room m (way.Single before) c p =
      record {
        frames = omega (arith, records_fit q.out k.out, p.frames);
        held = omega (arith, k.out.held);
        pending = omega (arith, p.pending refl);
      }
  send_room m (way.Chunked before size count) c p =
      let any : 1 ≤ count = rw c (some_chunk m.payload.len size) in
      record {
        frames = omega (arith, records_fit q.out k.out, p.frames);
        held = omega (arith, k.out.held);
        pending = omega (arith, p.pending refl);
      }

  -- the records of entries are no more than their frames
  replay_room : (l : List OpSend) (pending : ℕ) → EachFormed l → q.out.waiting + frames_for l ≤ outbound_size → length q.pending + pending ≤ pending_size
      → HasRoom q (length (framed_of l)) 0 pending
  replay_room l pending formed room few =
      let x = again_all l formed in
      let waits = rw length-map at (waits_length (map again (framed_of l)) x.each) in
      let fewer : length (framed_of l) ≤ frames_for l = omega (arith, x.counted) in
      record {
        frames = omega (arith, records_fit q.out k.out);
        held = omega (arith, k.out.held);
        pending = few;
      }

  pub finds_room : (c : Call) → FindsRoom store q c
  unfolding flush_batch replay_snapshots replay_pending_outbound
  finds_room (send a) =
      λ w. plan_cases (length store) a q (λ p. p ≡ go w → HasRoom q (records w) (one (joins w)) (one (not (is_too_large w))))
      (λ n x e. differ (cc))
      (λ i b passed e.
      let same : way_of q.settings a.message q.out.batch ≡ w = cc in
      rw same at
      (send_room a.message (way_of q.settings a.message q.out.batch)
      (way_chunks q.settings a.message (flushes_before q.settings a.message q.out.batch) _) passed))
  finds_room (flush time) =
      let P : Outcome ℕ → Type 0 = λ r. r.1 ≡ done 1 → HasRoom q 1 0 0 in
      pick_ind P (is_empty q.out.batch) _ _ (λ x e. differ (cc))
      (λ x. pick_ind P q.settings.switches.closed _ _ (λ y e. differ (cc))
      (λ y. pick_ind P (too_many 1 q) _ _ (λ z e. differ (cc))
      (λ z e. record {
        frames = omega (arith, records_fit q.out k.out, ltb-false outbound_size (q.out.waiting + 1) z);
        held = omega (arith, k.out.held);
        pending = omega (arith, k.pending.few);
      })))
  finds_room (take room) = tt
  finds_room (receipt id message_id) = tt
  finds_room (send_error id code) = tt
  finds_room (timeouts now room) = tt
  finds_room (initial_id n) = tt
  finds_room (set s) = tt
  finds_room (set_name bytes) = tt
  finds_room close = tt
  finds_room (query x) = tt
  finds_room (drain room) = tt
  finds_room (snapshot droppedRoom replayRoom) = tt
  finds_room (replay l) =
      let P : Outcome (Unit {0}) → Type 0 = λ r. r.1 ≡ done tt → HasRoom q (length (framed_of l)) 0 (length l) in
      pick_ind P (not (all_well_formed l)) _ _ (λ x e. differ (cc))
      (λ x. pick_ind P (ltb pending_size (length l + length q.pending)) _ _ (λ y e. differ (cc))
      (λ y. pick_ind P (too_many (frames_for l) q) _ _ (λ z e. differ (cc))
      (λ z e. replay_room l (length l) (all_well_formed_lem l (not-false _ x)) (ltb-false outbound_size (q.out.waiting + frames_for l) z)
      (omega (arith, ltb-false pending_size (length l + length q.pending) y)))))
  finds_room resend =
      λ frames.
      let l = unborne q.out.frames q.pending in
      let P : Outcome ℕ → Type 0 = λ r. r.1 ≡ done frames → HasRoom q (length (framed_of l)) 0 0 in
      pick_ind P (too_many (frames_for l) q) _ _ (λ z e. differ (cc))
      (λ z e. replay_room l 0 (unborne_all _ q.out.frames q.pending k.pending.formed) (ltb-false outbound_size (q.out.waiting + frames_for l) z)
      (omega (arith, k.pending.few)))

pub reachable_rule : ReachableRule
reachable_rule store handle cs is64 =
    let q = after store (new_queue handle) cs in
    let k = run_well store cs (new_queue handle) (new_well handle) is64 in (
      record {
        counted = k.out.counted;
        waiting = k.out.waiting;
        records = records_fit q.out k.out;
        held = k.out.held;
        pending = k.pending.few;
        opened = rw length-drop (omega (arith, k.out.shared));
        size = k.out.size;
        encoded = k.out.encoded;
      },
      finds_room store q k,
    )
