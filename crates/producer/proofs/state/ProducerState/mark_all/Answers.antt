-- `ProducerState::mark_all`: every mark stored is set.
use Rattle.std.proofs.Common.{refl, arith}
use Rattle.producer.specs.State.{state_of}
use Rattle.producer.proofs.Full.{Full}
use Rattle.producer.proofs.Rows.{full_rows}
use Rattle.producer.proofs.Marks.{marks_all}
use Rattle.producer.proofs.state.ProducerState.mark_all.Goals as goal

pub returns : goal.returns
returns c =
    let s = state_of c.args.self.now in
    let f : Full s = full_rows c.args.self.now (omega arith) (omega arith) (omega arith) (omega arith) (omega arith) in
    marks_all s f _ refl refl
