-- Writes around bytes that stand already, and into a part that is lent. Assumes nothing.
use Rattle.std.proofs.Common.{◌≡◌, ℕ, ◌+◌, ◌-◌, ◌≤◌, List, ◌++◌, length, take, drop, sym, ap, ◌∙◌, arith, length-append, length-drop, take-append-drop, length-take-le, drop-drop, take_at}
use lib.Seq.{drop-append-add, drop-append-le}
use Rattle.script.specs.Output.{Wrote}
use Rattle.script.proofs.Outputs.{next, further, less_front, less_rest}
use Rattle.host.specs.Framing.{Completes}

-- a write in front of one that stands
pub around : {a b c : List ℕ} {at m r : ℕ} → Wrote m a b r → Wrote at b c m → Wrote at a c r
around {a} {b} {c} {at} {m} {r} v w =
    let e = v.same in
    let h = v.within in
    let k = w.within in
    record {
      onward = omega (arith, v.onward, w.onward);
      within = omega (arith, v.onward, w.onward);
      same = w.same ∙ v.same;
      front = w.front ∙ less_front b a at m w.onward v.front;
      rest = less_rest c b m r v.onward w.rest ∙ v.rest;
    }

-- where nothing was written all is as it was
pub unchanged : {a b : List ℕ} {m r : ℕ} → Wrote m a b r → r ≤ m → b ≡ a
unchanged {a} {b} {m} {r} w h =
    let e : r ≡ m = omega (arith, w.onward) in
    sym (take-append-drop m b) ∙ rw (w.front, ← e, w.rest) (take-append-drop r a)

-- a part is lent, written from its start, and taken back
pub lent : (d ys : List ℕ) (a e : ℕ) {n : ℕ} → a ≤ e → e ≤ length d → Wrote 0 (take (e - a) (drop a d)) ys n
    → Wrote a d (take a d ++ (ys ++ drop (e - a) (drop a d))) (a + n)
lent d ys a e {n} h k w =
    let l : length (take a d) ≡ a = length-take-le a d (omega arith) in
    let m : length (take (e - a) (drop a d)) ≡ e - a = length-take-le (e - a) (drop a d) (rw length-drop (omega arith)) in
    let s : length ys ≡ e - a = w.same ∙ m in
    let i : n ≤ e - a = omega (arith, w.within) in
    record {
      onward = omega arith;
      within = omega arith;
      same = simp (length-append, length-drop, l, s) (omega arith);
      front = take_at (take a d) (ys ++ drop (e - a) (drop a d)) a l;
      rest =
          ap (λ (k : ℕ). drop (k + n) (take a d ++ (ys ++ drop (e - a) (drop a d)))) (sym l)
          ∙ drop-append-add (take a d) (ys ++ drop (e - a) (drop a d)) n
          ∙ drop-append-le n ys (drop (e - a) (drop a d)) (omega arith)
          ∙ ap (λ (z : List ℕ). z ++ drop (e - a) (drop a d)) w.rest
          ∙ sym (drop-append-le n (take (e - a) (drop a d)) (drop (e - a) (drop a d)) (omega arith))
          ∙ ap (drop n) (take-append-drop (e - a) (drop a d))
          ∙ drop-drop n a d;
    }

-- bytes stand from `start` on; a part before them is lent and written, and then what follows
pub framed : {d ys e : List ℕ} {at start k r : ℕ} (n : ℕ) → at ≤ start → start + n ≤ length d → Wrote 0 (take (start - at) (drop at d)) ys k
    → Wrote (start + n) (take at d ++ (ys ++ drop (start - at) (drop at d))) e r → Completes at start n d e r
framed {d} {ys} {e} {at} {start} {k} n h l v w first s =
    let m : length (take (start - at) (drop at d)) ≡ start - at =
    length-take-le (start - at) (drop at d) (rw length-drop (omega arith)) in
    next (around s (further (lent d ys at start h (omega arith) v) (omega (arith, v.within)) (omega arith))) w

-- nothing stands there
pub none_stands : {d e : List ℕ} {at start r : ℕ} → Wrote at d e r → Completes at start 0 d e r
none_stands {d} {e} {at} {start} {r} w first s = rw (unchanged s (omega arith)) at w
