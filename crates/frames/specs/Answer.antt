-- The refusals of a take, 10, 2 and 9 in order.
use Rattle.std.specs.Prelude.{ℕ, ltb, eqb, Err, Ok, Result, Option, Some, None}
use Rattle.laws.specs.Choice.{pick}
use Rattle.types.specs.declared.error.ProducerError.TheVariants.{NoFrame, PartOutside, TooShort}
use Rattle.frames.specs.declared.span.Span.{Span}
use Rattle.types.specs.declared.error.ProducerError.{ProducerError}

abbrev pub fitting : Option Span → ℕ → Result Span ProducerError
fitting (Some s) room = pick (ltb room s.len) (Err TooShort) (Ok s)
fitting None room = Err PartOutside

-- the span of a frame that goes out
abbrev pub answer_of : ℕ → Option Span → ℕ → Result Span ProducerError
answer_of frames s room = pick (eqb frames 0) (Err NoFrame) (fitting s room)
