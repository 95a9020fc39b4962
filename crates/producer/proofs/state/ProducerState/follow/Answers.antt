-- `ProducerState::follow`: each way's steps, one after the other, store what its plan says.
use Rattle.std.proofs.Common.{refl, ap, ◌∙◌}
use Rattle.rows.specs.Message.{decode_message}
use Rattle.plans.specs.Send.{joined, singled, chunked, flushed_full, followed}
use Rattle.producer.specs.Push.{whole, after, emitted_state, joined_state}
use Rattle.producer.specs.State.{State}
use Rattle.producer.proofs.state.ProducerState.follow.Goals as goal

pub returns-in-TooLarge : goal.returns-in-TooLarge
unfolding followed
returns-in-TooLarge c = rw c.in-TooLarge.is record { carries = (c.flush_if.ensures.done, refl); kept = c.flush_if.ensures.kept }

pub returns-in-Join : goal.returns-in-Join
unfolding followed
returns-in-Join c =
    let a = whole (decode_message c.args.message.now) c.args.a in
    rw
    c.in-Join.is
    record {
      carries = (
        c.flush_batch_if_full.ensures
            ∙ ap (λ (s : State). after (flushed_full a.publish_time s.core) s)
            (c.add_to_batch.ensures ∙ ap (λ (s : State). joined_state (joined a s.core) s) c.flush_if-in-Join.ensures.done),
        refl,
      );
      kept = tt;
    }

pub returns-in-Single : goal.returns-in-Single
unfolding followed
returns-in-Single c =
    let a = whole (decode_message c.args.message.now) c.args.a in
    rw
    c.in-Single.is
    record {
      carries = (c.emit_single.ensures ∙ ap (λ (s : State). emitted_state (singled a s.core) s) c.flush_if-in-Single.ensures.done, refl);
      kept = tt;
    }

pub returns-in-Chunked : goal.returns-in-Chunked
unfolding followed
returns-in-Chunked c =
    let a = whole (decode_message c.args.message.now) c.args.a in
    let w = c.in-Chunked in
    rw
    w.is
    record {
      carries = (
        c.emit_chunked.ensures ∙ ap (λ (s : State). emitted_state (chunked a w.max_chunk_size w.total_chunks s.core) s) c.flush_if-in-Chunked.ensures.done,
        refl,
      );
      kept = tt;
    }
