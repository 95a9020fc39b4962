-- The bounds of what a message bears and of what can be set ('Who can cause a refusal', 3 and 8).
use Rattle.std.specs.Prelude.{ℕ}

abbrev pub longest_payload : ℕ
longest_payload = 16777216

-- also of a schema version
abbrev pub longest_key : ℕ
longest_key = 1024

-- also of the producer's own name (8)
abbrev pub longest_name : ℕ
longest_name = 64

-- 8: a message limit, and the bytes of a batch
abbrev pub largest_limit : ℕ
largest_limit = 16777216

-- 8: the messages of a batch
abbrev pub longest_batch : ℕ
longest_batch = 128

-- 8: the headroom (document 02, K6)
abbrev pub largest_headroom : ℕ
largest_headroom = 65536
