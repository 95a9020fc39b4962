-- Calls that nothing refuses: it is enough to know what is answered, or the queue that is left. Assumes nothing.
use Rattle.std.proofs.Common.{◌≡◌, []}
use Rattle.queue.specs.Queue.{Queue, Outcome, done}
use Rattle.queue.specs.Run.{Query, Asked, ask, query}
use Rattle.producer.specs.Meets.{Meets}
use Rattle.producer.specs.View.{view}
use Rattle.producer.specs.declared.state.ProducerState.{ProducerState}

pub asked : (s : ProducerState) (k : Query) {x : Asked k} → x ≡ ask k (view s) → Meets [] (query k) s s (done x)
asked s k e = λ j. (view s, done (e j))

pub left : {q r : Queue} → q ≡ r → ◌≡◌ {A = Outcome (Unit {0})} (q, done tt) (r, done tt)
left e = λ j. (e j, done tt)
