-- The answer of a take, around a payload that stands in the output already.
use Rattle.std.specs.Prelude.{ℕ, ◌+◌, List, Err, Ok, Result}
use Rattle.script.specs.Output.{Wrote}
use Rattle.types.specs.declared.outbound.OutboundFrame.{OutboundFrame}
use Rattle.types.specs.declared.error.ProducerError.{ProducerError}

-- where n bytes stand already from `start` on: what is written before and behind them makes one write of it all
abbrev pub Completes : ℕ → ℕ → ℕ → List ℕ → List ℕ → ℕ → Type 0
Completes at start n before after r = (first : List ℕ) → Wrote start first before (start + n) → Wrote at first after r

-- how many bytes a take has written to its buffer
abbrev pub bytes_taken : Result OutboundFrame ProducerError → ℕ
bytes_taken (Ok f) = f.payload_len
bytes_taken (Err e) = 0
