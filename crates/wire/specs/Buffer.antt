-- What a writer leaves of the buffer that it is lent.
use Rattle.std.specs.Prelude.{ℕ, ◌≤◌, ◌≡◌, List, ◌++◌, length, drop}

-- there is room for the bytes
pub record Room (bytes before : List ℕ) : Type 0 where
  pub fits : length bytes ≤ length before

-- the bytes stand at the start, the rest is as it was, and the answer is how many they are
pub record Puts (bytes before after : List ℕ) (r : ℕ) : Type 0 where
  pub room : length bytes ≤ length before
  pub count : r ≡ length bytes
  pub left : after ≡ bytes ++ drop (length bytes) before
