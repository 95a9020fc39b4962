-- How a payload over the limit is cut.
use Rattle.std.specs.Prelude.{ℕ, ◌^◌, ◌-◌, min}
use Rattle.queue.specs.Send.{chunk_size_of, total_chunks}
use Rattle.types.specs.declared.settings.Limits.{Limits}
use Rattle.rules.specs.declared.chunks.Cut.{Cut}

-- the size as 32 bits hold it
abbrev pub size_of : Limits → ℕ
size_of l = min (chunk_size_of l) (2 ^ 32 - 1)

abbrev pub cut_of : ℕ → Limits → Cut
cut_of len l = record { max_chunk_size = size_of l; total_chunks = total_chunks len (size_of l) }
