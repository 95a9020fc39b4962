-- `first::first_message`: the contract of each call is a step of the run, and the order rule reads the frame.
use Rattle.std.proofs.Common.{◌≡◌, ℕ, List, append-nil}
use Rattle.queue.specs.Frame.{Frame}
use Rattle.queue.specs.Message.{Message}
use Rattle.queue.specs.Run.{Call}
use Rattle.producer.specs.Runs.{Run, end, call}
use Rattle.producer.specs.declared.state.ProducerState.{ProducerState}
use Rattle.example.proofs.Ranges.{in_range}
use Rattle.example.proofs.ReadsBack.{reads_back}
use Rattle.example.proofs.first.first_message.Goals as goal

-- the same run, at lists that are equal to its own
run_at : {store : List ℕ} {s u : ProducerState} {cs : List Call} {fs gs : List Frame} {ms ns : List Message}
    → fs ≡ gs → ms ≡ ns → Run store s cs u fs ms → Run store s cs u gs ns
run_at e d r = rw (← e, ← d) r

pub returns-clause-run : goal.returns-clause-run
returns-clause-run c =
    record {
      first = c.new-new.result;
      new = c.new-new.ensures;
      run = run_at (append-nil _) (append-nil _)
          (call _ c.set-batching.ensures.meets
          (call _ c.queue_send-sent.ensures.meets
          (call _ c.flush_batch-flushed.ensures.meets
          (call _ c.next_outbound_frame-taken.ensures.meets
          end))));
    }

-- the message is the third argument, and the event time its sixth field
pub returns-clause-reads : goal.returns-clause-reads
returns-clause-reads c =
    let is64 = in_range c.args.message.event_time _ c.well_formed.1.1.0.1.1.1.1.1.1.1.0 in
    reads_back c.args.store.now _ _ _ _ _ _ is64 _ (returns-clause-run c)
