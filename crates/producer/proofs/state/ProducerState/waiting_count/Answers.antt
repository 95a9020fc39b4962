-- `ProducerState::waiting_count`: it is stored.
use Rattle.std.proofs.Common.{ap, ◌∙◌}
use Rattle.queue.specs.Run.{waiting_count}
use Rattle.rules.specs.declared.rings.Rings.{Rings}
use Rattle.producer.specs.View.{queue_of}
use Rattle.producer.proofs.Meets.{asked}
use Rattle.producer.proofs.state.ProducerState.waiting_count.Goals as goal

pub returns : goal.returns
unfolding queue_of
returns c = asked c.args.self.now waiting_count (c.outbound_len_of.ensures ∙ ap (λ (r : Rings). r.waiting) c.decode.ensures)
