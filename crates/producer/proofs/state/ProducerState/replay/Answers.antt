-- `ProducerState::replay`: marks, entries and frames are stored one after the other, unless 12, 7 or 4 refuses.
use Rattle.std.proofs.Common.{◌<◌, ◌^◌, length, map, sym, ap, ◌∙◌, subst, arith}
use Rattle.std.specs.Prelude.{Result}
use Rattle.std.proofs.lemmas.Result.{err_from_is_err_and}
use lib.ListN.{length-map}
use Rattle.rows.specs.Entry.{decode_entry}
use Rattle.laws.specs.Lists.{front_all}
use Rattle.types.specs.declared.error.ProducerError.{ProducerError}
use Rattle.queue.specs.Queue.{Queue, done, with_out, with_pending}
use Rattle.queue.specs.Sizes.{pending_size}
use Rattle.queue.specs.Tables.{fronted, mark}
use Rattle.plans.specs.Replay.{replay_answer}
use Rattle.producer.specs.State.{state_of}
use Rattle.producer.specs.View.{queue_of}
use Rattle.producer.proofs.Full.{Full}
use Rattle.producer.proofs.Rows.{full_rows}
use Rattle.producer.proofs.Replays.{ends_as, replayed, replays, waiting_few}
use Rattle.producer.proofs.state.ProducerState.replay.Goals as goal

pub front_frames-requires : goal.front_frames-requires
unfolding queue_of
front_frames-requires c =
    let s = state_of c.args.self.now in
    let waits : Queue → Type 0 = λ q. q.out.waiting < 2 ^ 64 in
    let entries : Queue → Queue = λ q. with_pending (front_all pending_size (map mark (map decode_entry c.args.table.now)) q.pending) q in
    subst waits (sym (c.front_entries.ensures ∙ ap entries c.mark_all.ensures)) (waiting_few s _ _ _ (c.in_ok-replay_answer.ensures ∙ ap (replay_answer c.all_well_formed.result (length c.args.table.now) c.frames_for.result) c.decode.ensures))

pub returns-clause-meets : goal.returns-clause-meets
returns-clause-meets c =
    let s = state_of c.args.self.now in
    let l = map decode_entry c.args.table.now in
    let f : Full s = full_rows c.args.self.now (omega arith) (omega arith) (omega arith) (omega arith) (omega arith) in
    let many = sym (length-map c.args.table.now decode_entry) in
    let planned = c.in_ok-replay_answer.ensures ∙ (λ j. replay_answer (c.all_well_formed.ensures j) (many j) (c.frames_for.ensures j) (c.decode.ensures j)) in
    let stored =
    c.front_frames.ensures
    ∙ ap (λ (q : Queue). with_out (fronted l q.out) q)
    (c.front_entries.ensures ∙ ap (λ (q : Queue). with_pending (front_all pending_size (map mark l) q.pending) q) c.mark_all.ensures) in
    ap (λ (q : Queue). (q, done tt)) stored
    ∙ ap (λ (r : Result (Unit {0}) ProducerError). ends_as r (queue_of s) (replayed s l)) planned
    ∙ replays s f l

pub returns-in_err-replay_answer-clause-meets : goal.returns-in_err-replay_answer-clause-meets
returns-in_err-replay_answer-clause-meets c =
    let s = state_of c.args.self.now in
    let l = map decode_entry c.args.table.now in
    let f : Full s = full_rows c.args.self.now (omega arith) (omega arith) (omega arith) (omega arith) (omega arith) in
    let many = sym (length-map c.args.table.now decode_entry) in
    let planned = c.in_err-replay_answer.ensures ∙ (λ j. replay_answer (c.all_well_formed.ensures j) (many j) (c.frames_for.ensures j) (c.decode.ensures j)) in
    let p = err_from_is_err_and c.from_residual.result c.from_residual.ensures.1 in
    rw (p.1, p.2)
    (ap (λ (r : Result (Unit {0}) ProducerError). ends_as r (queue_of s) (replayed s l)) planned ∙ replays s f l)
