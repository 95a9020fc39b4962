-- What the answers of the code say in document 01's numbers and values.
use Rattle.std.specs.Prelude.{◌≡◌, Err, Ok, Result}
use Rattle.types.specs.Refusals.{number_of, values_of}
use Rattle.types.specs.declared.answer.SendDecision.TheVariants as send
use Rattle.types.specs.declared.answer.SendDecision.{SendDecision}
use Rattle.types.specs.declared.error.ProducerError.{ProducerError}
use Rattle.queue.specs.Queue.{Answer, refused, done}
use Rattle.queue.specs.Send.{Decision, emitted, batched}

abbrev pub told_error : {A : Type 0} → ProducerError → Answer A
told_error e = refused (number_of e) (values_of e)

abbrev pub told : {A : Type 0} → Result A ProducerError → Answer A
told (Ok x) = done x
told (Err e) = told_error e

abbrev pub told_send : Result SendDecision ProducerError → Answer Decision
told_send (Ok (send.Emit n)) = done (emitted n)
told_send (Ok send.Batched) = done batched
told_send (Err e) = told_error e

-- a refusal leaves what it was given as it was
abbrev pub Kept : {A S : Type 0} → Answer A → S → S → Type 0
Kept (refused n values) before after = after ≡ before
Kept (done x) before after = Unit {0}
