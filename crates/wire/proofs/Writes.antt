-- What a run of writes leaves of a buffer: the bytes written, and the rest as it was.
use Prim.Native.Nat.{ℕ, ◌+◌, ◌-◌, ◌≤◌, ◌<◌}
use mathlib.Core.Path.{◌≡◌, refl, sym, ◌∙◌}
use mathlib.Core.List.{List, [], ◌∷◌, ◌++◌, append_assoc}
use native.Mathlib.Omega.{arith}
use lib.ListN.{length, take, drop, set}
use lib.Seq.{sets-eq}
use Rattle.std.proofs.lemmas.Grind.{common_steps}
use Rattle.std.proofs.lemmas.Slice.{overwrites}
use Rattle.wire.specs.Proto.{be32}
use Rattle.wire.specs.Buffer.{Room, Puts}

-- the bytes stand from a place on, the rest is as it was, and the answer is the next place
pub record PutsAt (bytes : List ℕ) (at : ℕ) (before after : List ℕ) (r : ℕ) : Type 0 where
  pub room : at + length bytes ≤ length before
  pub next : r ≡ at + length bytes
  pub left : after ≡ take at before ++ bytes ++ drop (at + length bytes) before

-- a byte stored
pub put_byte : (d : List ℕ) (i b : ℕ) → i < length d → PutsAt (b ∷ []) i d (set d i b) (i + 1)
put_byte d i b h = record { room = omega arith; next = refl; left = sets-eq (b ∷ []) d i (omega arith) }

-- what is written in place leaves the length
pub same : {d₀ d a : List ℕ} {n : ℕ} → Puts a d₀ d n → length d ≡ length d₀
same v = grind (arith, common_steps)

-- the same answer, worked out otherwise
pub answered : {d₀ d a : List ℕ} {n m : ℕ} → Puts a d₀ d n → n ≡ m → Puts a d₀ d m
answered v e = record { room = v.room; count = sym e ∙ v.count; left = v.left }

-- one run of bytes after another
pub next : {d₀ d₁ d₂ a b : List ℕ} {n m : ℕ} → Puts a d₀ d₁ n → PutsAt b n d₁ d₂ m → Puts (a ++ b) d₀ d₂ m
next v w =
    record {
      room = grind (arith, common_steps);
      count = grind (arith, common_steps);
      left = grind (arith, common_steps, overwrites);
    }

-- a run of bytes for which the rest of the buffer is lent, written from its start and taken back
pub lent_at : (d : List ℕ) (at : ℕ) {ys b : List ℕ} {n : ℕ} → at ≤ length d → Puts b (take (length d - at) (drop at d)) ys n
    → PutsAt b at d (take at d ++ (ys ++ drop (length d - at) (drop at d))) (at + n)
lent_at d at h w = grind (arith, common_steps)

-- the same after another run
pub then : {d₀ d ys a b : List ℕ} {at n : ℕ} → Puts a d₀ d at → Puts b (take (length d - at) (drop at d)) ys n
    → Puts (a ++ b) d₀ (take at d ++ (ys ++ drop (length d - at) (drop at d))) (at + n)
then {d = d} {at = at} v w = let e = same v in next v (lent_at d at (let r = v.room in let f = v.count in omega arith) w)

-- the same for bytes that are copied over the part of the buffer
pub then_copied : {d₀ d x a b : List ℕ} {at n : ℕ} → Room (a ++ b) d₀ → Puts a d₀ d at → length b ≡ n → x ≡ b
    → Puts (a ++ b) d₀ (take at d ++ (x ++ drop (at + n - at) (drop at d))) (at + n)
then_copied r v e f = grind (arith, common_steps, next)

-- four bytes that say how many bytes are to follow them
pub header : {d₀ d : List ℕ} {n k : ℕ} (m : ℕ) → n ≡ m → Puts (be32 n) d₀ d k → Puts (be32 m) d₀ d 4
unfolding be32
header m e v = rw e at (answered v v.count)

-- bytes that are as many as the buffer's fill it
pub filled : {b d d₂ : List ℕ} {n : ℕ} → Puts b d d₂ n → length b ≡ length d → d₂ ≡ b
filled v e = grind (arith, common_steps)

-- in a loop: some of the bytes are written, and the others are to come
pub record Going (whole todo before after : List ℕ) (r : ℕ) : Type 0 where
  pub done : List ℕ
  pub sofar : Puts done before after r
  pub total : done ++ todo ≡ whole

pub going_start : {whole d : List ℕ} → Room whole d → Going whole whole d d 0
going_start r = grind (arith, common_steps)

pub going_fits : {whole todo d₀ d : List ℕ} {n : ℕ} → Going whole todo d₀ d n → length whole ≤ length d₀ → n + length todo ≤ length d
going_fits g h = grind (arith, common_steps)

pub going_step : {whole a b d₀ d₁ d₂ : List ℕ} {n m : ℕ} → Going whole (a ++ b) d₀ d₁ n → PutsAt a n d₁ d₂ m → Going whole b d₀ d₂ m
going_step {whole} {a} {b} g p =
    record { done = g.done ++ a; sofar = next g.sofar p; total = append_assoc g.done a b ∙ g.total }

-- the same where the rest of the buffer is lent
pub going_lent_room : {whole a d₀ d : List ℕ} (b : List ℕ) {n : ℕ} → Going whole (a ++ b) d₀ d n → Room whole d₀
    → Room a (take (length d - n) (drop n d))
going_lent_room b g r = let f = going_fits g r.fits in grind (arith, common_steps)

pub going_lent : {whole a b d₀ d ys : List ℕ} {n m : ℕ} → Going whole (a ++ b) d₀ d n → Puts a (take (length d - n) (drop n d)) ys m
    → Going whole b d₀ (take n d ++ (ys ++ drop (length d - n) (drop n d))) (n + m)
going_lent {d} {n} g p =
    let e = same g.sofar in
    going_step g (lent_at d n (let r = g.sofar.room in let f = g.sofar.count in omega arith) p)

pub going_end : {whole d₀ d : List ℕ} {n : ℕ} → Going whole [] d₀ d n → Puts whole d₀ d n
going_end g = grind (arith, common_steps)
