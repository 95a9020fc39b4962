-- `ProducerState::flush`: what is planned is stored, and the plan's store makes the queue of the definition.
use Rattle.std.proofs.Common.{refl, ap, ◌∙◌, arith}
use Rattle.std.proofs.lemmas.Result.{err_from_is_err_and}
use Rattle.queue.specs.Queue.{done}
use Rattle.plans.specs.Batch.{flush_planned}
use Rattle.producer.specs.Apply.{store_core}
use Rattle.producer.specs.State.{state_of}
use Rattle.producer.specs.View.{queue_of}
use Rattle.producer.proofs.Flushes.{flush_done, flush_refused}
use Rattle.producer.proofs.Rows.{full_rows}
use Rattle.producer.proofs.state.ProducerState.flush.Goals as goal

pub returns : goal.returns
returns c =
    let t = c.args.publish_time in
    let r = c.args.self.now in
    let s = state_of r in
    let f = full_rows r (omega arith) (omega arith) (omega arith) (omega arith) (omega arith) in
    let d = c.plan_flush-d.result in
    let planned = c.plan_flush-d.ensures ∙ ap (flush_planned t) c.decode.ensures in
    let left = c.store_core.ensures ∙ ap (store_core d.core) c.store_frame.ensures in
    record { meets = (λ j. (queue_of (left j), done c.in_ok-count.count)) ∙ flush_done s f t d planned c.in_ok-count.count c.in_ok-count.was; kept = tt }

pub returns-in_err-count : goal.returns-in_err-count
returns-in_err-count c =
    let t = c.args.publish_time in
    let r = c.args.self.now in
    let f = full_rows r (omega arith) (omega arith) (omega arith) (omega arith) (omega arith) in
    let planned = c.plan_flush-d.ensures ∙ ap (flush_planned t) c.decode.ensures in
    let p = err_from_is_err_and c.from_residual.result c.from_residual.ensures.1 in
    record {
      meets = rw (p.1, p.2) (flush_refused (state_of r) f t c.plan_flush-d.result planned _ c.in_err-count.was);
      kept = rw p.1 refl;
    }
