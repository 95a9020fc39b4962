-- What a method promises of its call: the queue and the answer are those of the definitions.
use Rattle.std.specs.Prelude.{◌≡◌, ℕ, List}
use Rattle.queue.specs.Queue.{Answer, Outcome}
use Rattle.queue.specs.Run.{Call, Gives, step}
use Rattle.producer.specs.View.{view}
use Rattle.producer.specs.declared.state.ProducerState.{ProducerState}

-- with this store; only a send and a take look at it, so a method that is lent none promises it of the empty one
abbrev pub Meets : List ℕ → (c : Call) → ProducerState → ProducerState → Answer (Gives c) → Type 0
Meets store c before after answer = ◌≡◌ {A = Outcome (Gives c)} (view after, answer) (step store c (view before))
