-- No call but a send is refused with values. Assumes nothing.
use Rattle.std.specs.Prelude.{None, Some, Option}
use Rattle.std.proofs.Common.{ℕ, ◌+◌, Bool, true, false, not, ◌||◌, ltb, leb, List, [], ◌∷◌, length, take as take_first}
use Rattle.laws.specs.Choice.{pick}
use Rattle.types.specs.declared.entry.OpSend.{OpSend}
use Rattle.types.specs.declared.frame.FrameRecord.{FrameRecord}
use Rattle.types.specs.Ids.{of_receipt}
use Rattle.queue.specs.Ids.{published}
use Rattle.queue.specs.Queue.{Queue, Outcome, with_ids}
use Rattle.types.specs.Bounds.{longest_name}
use Rattle.queue.specs.Batch.{is_empty, too_many, flush_batch}
use Rattle.queue.specs.Frame.{first_frame, frame_in}
use Rattle.queue.specs.Sizes.{pending_size}
use Rattle.queue.specs.Settings.{allowed}
use Rattle.queue.specs.Run.{Call, step, send, flush, take, receipt, send_error, timeouts, initial_id, set, set_name, close, query, drain, snapshot, replay, resend}
use Rattle.queue.specs.Settings as settings
use Rattle.queue.specs.Settle.{answerable, found, settle, due_count, apply_receipt, apply_send_error, drain_timed_out_sends}
use Rattle.queue.specs.Tables.{batched_of, framed_of, all_well_formed, frames_for, unborne, drain_pending_sends, snapshot_pending_sends, replay_snapshots, replay_pending_outbound}
use Rattle.queue.specs.Take.{take_from, next_outbound_frame}
use Rattle.queue.specs.Values.{Plain, NoValues, bare, given}

module _ {A : Type 0} where
  -- one test in front of an answer
  by_one : (b : Bool) (x y : Outcome A) → NoValues x → NoValues y → NoValues (pick b x y)
  by_one true x y p q = p
  by_one false x y p q = q

settle_plain : {A : Type 0} (id : ℕ) (give : OpSend → A) (change : Queue → Queue) (q : Queue) (b : Bool) (o : Option OpSend) → NoValues (settle id give change q b o)
settle_plain id give change q true None = bare _ _
settle_plain id give change q true (Some op) = given _ _
settle_plain id give change q false o = bare _ _

take_plain : (store : List ℕ) (room : ℕ) (q : Queue) (rs : List FrameRecord) → NoValues (take_from store room q rs)
take_plain store room q [] = bare _ _
take_plain store room q (r ∷ rs) =
    by_one (frame_in (length store) r r.kind q.out.held) _ _
    (by_one (ltb room (length (first_frame store q.handle r r.kind q.out.held).payload)) _ _ (bare _ _) (given _ _)) (bare _ _)

pub no_values : (store : List ℕ) (c : Call) (q : Queue) → Plain c → NoValues (step store c q)
unfolding flush_batch next_outbound_frame apply_receipt apply_send_error drain_timed_out_sends drain_pending_sends snapshot_pending_sends replay_snapshots replay_pending_outbound settings.set settings.set_name
no_values store (flush publish_time) q p =
    by_one (is_empty q.out.batch) _ _ (given _ _) (by_one q.settings.switches.closed _ _ (given _ _) (by_one (too_many 1 q) _ _ (bare _ _) (given _ _)))
no_values store (take room) q p = take_plain store room q _
no_values store (receipt id message_id) q p =
    settle_plain id (λ op. (op, of_receipt message_id)) (λ r. with_ids (published id r.ids) r) q (answerable id q.pending) (found id q.pending)
no_values store (send_error id code) q p = settle_plain id (λ op. (op, code)) (λ r. r) q (answerable id q.pending) (found id q.pending)
no_values store (timeouts now room) q p = by_one (ltb room (length (take_first (due_count now q.settings.delays.send_timeout q.pending) q.pending))) _ _ (bare _ _) (given _ _)
no_values store (initial_id next) q p = given _ _
no_values store (set s) q p = by_one (allowed s) _ _ (given _ _) (bare _ _)
no_values store (set_name bytes) q p = by_one (leb (length bytes) longest_name) _ _ (given _ _) (bare _ _)
no_values store close q p = given _ _
no_values store (query k) q p = given _ _
no_values store (drain room) q p = by_one (ltb room (length q.pending)) _ _ (bare _ _) (given _ _)
no_values store (snapshot droppedRoom replayRoom) q p =
    by_one (ltb droppedRoom (length (batched_of q.pending)) || ltb replayRoom (length (framed_of q.pending))) _ _ (bare _ _) (given _ _)
no_values store (replay entries) q p =
    by_one (not (all_well_formed entries)) _ _ (bare _ _)
    (by_one (ltb pending_size (length entries + length q.pending)) _ _ (bare _ _) (by_one (too_many (frames_for entries) q) _ _ (bare _ _) (given _ _)))
no_values store resend q p = by_one (too_many (frames_for (unborne q.out.frames q.pending)) q) _ _ (bare _ _) (given _ _)
no_values store (send a) q p = absurd p
