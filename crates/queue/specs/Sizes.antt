-- How many there can be ('Who can cause a refusal').
use Rattle.std.specs.Prelude.{ℕ}

-- 4: waiting frames, chunks counted singly
abbrev pub outbound_size : ℕ
outbound_size = 1024

-- 5: batched messages, in the batch and in waiting batch frames
abbrev pub held_size : ℕ
held_size = 512

-- 7: pending entries
abbrev pub pending_size : ℕ
pending_size = 256
