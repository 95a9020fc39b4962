-- `ProducerState::resend`: the entries chosen are the definition's, and their frames go to the front unless 4 refuses.
use Rattle.std.proofs.Common.{ℕ, List, ap, ◌∙◌}
use Rattle.std.specs.Prelude.{Result}
use Rattle.std.proofs.lemmas.Result.{err_from_is_err_and}
use Rattle.laws.specs.Numbers.{add_sat}
use Rattle.types.specs.declared.entry.OpSend.{OpSend}
use Rattle.types.specs.declared.error.ProducerError.{ProducerError}
use Rattle.queue.specs.Queue.{Queue, done, with_out}
use Rattle.queue.specs.Tables.{frames_for, fronted}
use Rattle.plans.specs.Replay.{replay_count}
use Rattle.producer.specs.State.{state_of}
use Rattle.producer.specs.View.{queue_of}
use Rattle.producer.proofs.Replays.{ends_as, left, found, counts}
use Rattle.producer.proofs.state.ProducerState.resend.Goals as goal

pub returns-clause-meets : goal.returns-clause-meets
returns-clause-meets c =
    let s = state_of c.args.self.now in
    let q = queue_of s in
    let e = found s _ (c.as_slice.ensures ∙ c.waiting_ids-ids.ensures.same) in
    let e2 = found s _ (c.as_slice-2.ensures ∙ c.waiting_ids-ids.ensures.same) in
    let planned = c.in_ok-count.ensures ∙ λ j. replay_count ((c.unborne_frames-frames.ensures ∙ ap (λ (l : List OpSend). add_sat 0 (frames_for l)) e) j) (c.decode.ensures j) in
    let stored = c.front_unborne.ensures ∙ ap (λ (l : List OpSend). with_out (fronted l q.out) q) e2 in
    ap (λ (t : Queue). (t, done c.in_ok-count.count)) stored
    ∙ ap (λ (r : Result ℕ ProducerError). ends_as r q (with_out (fronted (left s) q.out) q)) planned
    ∙ counts s

pub returns-in_err-count-clause-meets : goal.returns-in_err-count-clause-meets
returns-in_err-count-clause-meets c =
    let s = state_of c.args.self.now in
    let q = queue_of s in
    let e = found s _ (c.as_slice.ensures ∙ c.waiting_ids-ids.ensures.same) in
    let planned = c.in_err-count.ensures ∙ λ j. replay_count ((c.unborne_frames-frames.ensures ∙ ap (λ (l : List OpSend). add_sat 0 (frames_for l)) e) j) (c.decode.ensures j) in
    let p = err_from_is_err_and c.from_residual.result c.from_residual.ensures.1 in
    rw (p.1, p.2)
    (ap (λ (r : Result ℕ ProducerError). ends_as r q (with_out (fronted (left s) q.out) q)) planned ∙ counts s)
