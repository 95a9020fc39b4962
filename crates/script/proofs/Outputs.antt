-- Runs of writes: none, a stretch that is passed over or stored, one write after another.
use Rattle.std.specs.Prelude.{◌≡◌, ℕ, ◌+◌, ◌-◌, ◌≤◌, max, List, length, take, drop}
use Rattle.std.proofs.lemmas.Slice.{drop-put_mid}
use borrow.Rule.Slice.PartMut.{put_mid, mid_of, same_len_mid, take_put}
use Rattle.std.proofs.Common.{refl, ap, sym, ◌∙◌, arith, length-drop, length-take-le}
use lib.Seq.{take-take, drop-drop}
use Rattle.script.specs.Output.{Wrote}

-- nothing is written; a stretch is passed over
pub passed : {d : List ℕ} {at r : ℕ} → at ≤ r → r ≤ max at (length d) → Wrote at d d r
passed h k = record { onward = h; within = k; same = refl; front = refl; rest = refl }

pub nothing : {d : List ℕ} {at : ℕ} → Wrote at d d at
nothing = passed (omega arith) (omega arith)

-- a stretch of bytes is stored
pub pasted : (d ys : List ℕ) (at n : ℕ) → at + n ≤ length d → length ys ≡ n → Wrote at d (put_mid at n d ys) (at + n)
pasted d ys at n h e =
    let m : length (mid_of at n d) ≡ n = length-take-le n (drop at d) (rw length-drop (omega arith)) in
    record {
      onward = omega arith;
      within = omega arith;
      same = same_len_mid at n d ys (e ∙ sym m);
      front = take_put at n d ys (omega arith);
      rest = drop-put_mid at n d ys (at + n) (omega arith) (omega arith) e;
    }

-- less of the front and of the rest
pub less_front : (c b : List ℕ) (at m : ℕ) → at ≤ m → take m c ≡ take m b → take at c ≡ take at b
less_front c b at m h e = sym (take-take at m c h) ∙ ap (take at) e ∙ take-take at m b h

pub less_rest : (b a : List ℕ) (m r : ℕ) → m ≤ r → drop m b ≡ drop m a → drop r b ≡ drop r a
less_rest b a m r h e =
    let k : m + (r - m) ≡ r = omega arith in
    rw (← k) (sym (drop-drop (r - m) m b) ∙ ap (drop (r - m)) e ∙ drop-drop (r - m) m a)

-- one write after another
pub next : {a b c : List ℕ} {at m r : ℕ} → Wrote at a b m → Wrote m b c r → Wrote at a c r
next {a} {b} {c} {at} {m} {r} v w =
    record {
      onward = omega arith;
      within = omega arith;
      same = w.same ∙ v.same;
      front = less_front c b at m v.onward w.front ∙ v.front;
      rest = w.rest ∙ less_rest b a m r w.onward v.rest;
    }

-- no more is written up to a later place
pub further : {a b : List ℕ} {at m r : ℕ} → Wrote at a b m → m ≤ r → r ≤ max at (length a) → Wrote at a b r
further w h k = let e = w.same in next w (passed h (omega arith))
