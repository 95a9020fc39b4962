-- Whether a flush that gives this answer makes its frame.
use Rattle.std.specs.Prelude.{Bool, false, ltb, Err, Ok, Result, ℕ}
use Rattle.types.specs.declared.error.ProducerError.{ProducerError}

abbrev pub makes_frame : Result ℕ ProducerError → Bool
makes_frame (Ok n) = ltb 0 n
makes_frame (Err e) = false
