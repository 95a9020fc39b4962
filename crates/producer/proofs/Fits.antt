-- What a call says that it handed out lies in what it was lent. Assumes nothing.
use Rattle.std.specs.Prelude.{Ok}
use Rattle.std.proofs.Common.{◌≡◌, ℕ, ◌≤◌, Bool, true, false, ◌||◌, ltb, List, [], ◌∷◌, length, refl, ap, ◌∙◌, arith, ltb-false}
use Rattle.laws.proofs.Choice.{pick_true, pick_false, differ, or_left, or_right}
use Rattle.types.specs.declared.entry.OpSend.{OpSend}
use Rattle.types.specs.declared.frame.FrameKind.{FrameKind}
use Rattle.types.specs.declared.frame.FrameKind.TheVariants.{Single, Batch, Chunked}
use Rattle.types.specs.declared.frame.FrameRecord.{FrameRecord}
use Rattle.types.specs.declared.outbound.OutboundFrame.{OutboundFrame}
use Rattle.types.specs.declared.types.ProducerHandle.{ProducerHandle}
use Rattle.frames.specs.Outbound.{frame_out}
use Rattle.tables.specs.declared.snapshot.Snapshot.{Snapshot}
use Rattle.rows.specs.declared.entry.OpSendRow.{OpSendRow}
use Rattle.queue.specs.Queue.{Queue, Outcome, Answer, done, refused}
use Rattle.queue.specs.Frame.{Frame, first_frame}
use Rattle.queue.specs.Run.{take, drain, timeouts, snapshot}
use Rattle.queue.specs.Settle.{Handed, handed, hand_out, drain_timed_out_sends}
use Rattle.queue.specs.Tables.{batched_of, framed_of, drain_pending_sends, snapshot_pending_sends}
use Rattle.queue.specs.Take.{take_from, next_outbound_frame}
use Rattle.producer.specs.Meets.{Meets}
use Rattle.producer.specs.Tables.{told_first, told_table, told_snapshot}
use Rattle.producer.specs.Take.{told_frame, OwnParts}
use Rattle.producer.specs.View.{view}
use Rattle.producer.specs.declared.state.ProducerState.{ProducerState}

-- an answer that goes through is no refusal
through : {A : Type 0} {P : Type 0} (x : A) {n : ℕ} {values : List ℕ} → ◌≡◌ {A = Answer A} (done x) (refused n values) → P
through x e = differ (cc)

-- ── a frame ──

len_out : (handle : ProducerHandle) (r : FrameRecord) (k : FrameKind) (n : ℕ) → (frame_out handle r k n).payload_len ≡ n
len_out handle r Single n = refl
len_out handle r (Batch b) n = refl
len_out handle r (Chunked c) n = refl

front_fits : (store : List ℕ) (room : ℕ) (q p : Queue) (rs : List FrameRecord) (f : OutboundFrame) (told : Frame)
    → OwnParts store q rs (Ok f) → ◌≡◌ {A = Outcome Frame} (p, done told) (take_from store room q rs) → f.payload_len ≤ room
front_fits store room q p [] f told own e = through told (ap (λ x. x.1) e)
front_fits store room q p (r ∷ rs) f told own e = go (ltb room n) refl
  where
    n : ℕ
    n = length (first_frame store q.handle r r.kind q.out.held).payload

    len : f.payload_len ≡ n
    len = ap (λ (x : OutboundFrame). x.payload_len) own.0 ∙ len_out q.handle r r.kind n

    go : (b : Bool) → ltb room n ≡ b → f.payload_len ≤ room
    go true h = through told (ap (λ x. x.1) (e ∙ pick_true _ _ own.1 ∙ pick_true _ _ h))
    go false h = omega (arith, len, ltb-false room n h)

pub frame_fits : (store before after : List ℕ) (s t : ProducerState) (f : OutboundFrame)
    → Meets store (take (length before)) s t (told_frame store after (Ok f)) → OwnParts store (view s) (view s).out.frames (Ok f)
    → f.payload_len ≤ length before
unfolding next_outbound_frame
frame_fits store before after s t f e own = front_fits store (length before) (view s) (view t) (view s).out.frames f _ own e

-- ── tables ──

first_fits : (room n : ℕ) (gone : List OpSend) (table : List OpSendRow) (q p t : Queue)
    → ◌≡◌ {A = Outcome Handed} (t, done (told_first n table)) (hand_out room gone q p) → n ≤ room
first_fits room n gone table q p t e = go (ltb room (length gone)) refl
  where
    go : (b : Bool) → ltb room (length gone) ≡ b → n ≤ room
    go true h = through (told_first n table) (ap (λ x. x.1) (e ∙ pick_true _ _ h))
    go false h =
        let same : ◌≡◌ {A = Outcome Handed} (t, done (told_first n table)) (p, done (handed gone)) = e ∙ pick_false _ _ h in
        let both : told_first n table ≡ handed gone = cc (ap (λ x. x.1) same) in
        let count : n ≡ length gone = ap (λ (x : Handed). x.count) both in
        omega (arith, count, ltb-false room (length gone) h)

module _ (s t : ProducerState) (room n : ℕ) (table : List OpSendRow) where
  pub drain_fits : Meets [] (drain room) s t (told_table (Ok n) table) → n ≤ room
  unfolding drain_pending_sends
  drain_fits e = first_fits room n _ table (view s) _ (view t) e

  pub timeouts_fit : (time : ℕ) → Meets [] (timeouts time room) s t (told_table (Ok n) table) → n ≤ room
  unfolding drain_timed_out_sends
  timeouts_fit time e = first_fits room n _ table (view s) _ (view t) e

pub snapshot_fits : (s t : ProducerState) (ds rs : ℕ) (n : Snapshot) (dropped replay : List OpSendRow)
    → Meets [] (snapshot ds rs) s t (told_snapshot (Ok n) dropped replay) → (n.dropped ≤ ds) × (n.replay ≤ rs)
unfolding snapshot_pending_sends
snapshot_fits s t ds rs n dropped replay e = go (ltb ds (length d) || ltb rs (length k)) refl
  where
    d : List OpSend
    d = batched_of (view s).pending

    k : List OpSend
    k = framed_of (view s).pending

    given : Handed × Handed
    given = (told_first n.dropped dropped, told_first n.replay replay)

    go : (b : Bool) → (ltb ds (length d) || ltb rs (length k)) ≡ b → (n.dropped ≤ ds) × (n.replay ≤ rs)
    go true h = through given (ap (λ x. x.1) (e ∙ pick_true _ _ h))
    go false h =
        let same : ◌≡◌ {A = Answer (Handed × Handed)} (done given) (done (handed d, handed k)) = ap (λ x. x.1) (e ∙ pick_false _ _ h) in
        let both : ◌≡◌ {A = Handed × Handed} given (handed d, handed k) = cc same in
        let x = or_left (ltb ds (length d)) (ltb rs (length k)) h in
        let y = or_right (ltb ds (length d)) (ltb rs (length k)) h in
        let a : n.dropped ≡ length d = ap (λ (z : Handed × Handed). z.0.count) both in
        let b : n.replay ≡ length k = ap (λ (z : Handed × Handed). z.1.count) both in
        (omega (arith, a, ltb-false ds (length d) x), omega (arith, b, ltb-false rs (length k) y))
