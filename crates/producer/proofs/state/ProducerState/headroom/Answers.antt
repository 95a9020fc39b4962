-- `ProducerState::headroom`: it is stored.
use Rattle.std.proofs.Common.{refl}
use Rattle.queue.specs.Run.{headroom}
use Rattle.producer.specs.View.{queue_of}
use Rattle.producer.proofs.Meets.{asked}
use Rattle.producer.proofs.state.ProducerState.headroom.Goals as goal

pub returns : goal.returns
unfolding queue_of
returns c = asked c.args.self.now headroom refl
