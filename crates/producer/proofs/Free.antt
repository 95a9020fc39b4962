-- The loops over the entries that bear none of the ids of waiting frames: the sum of their frames, and these in front. Assumes nothing.
use Rattle.std.proofs.Common.{◌≡◌, ℕ, ◌+◌, ◌^◌, ◌<◌, ◌≤◌, Bool, true, false, List, [], ◌∷◌, ◌++◌, length, take, get_or, sym, refl, ap, ◌∙◌, arith, take_all, append-nil, add-one}
use lib.Seq.{take-suc}
use Rattle.laws.specs.Choice.{pick}
use Rattle.laws.specs.Lists.{keeping}
use Rattle.laws.specs.Numbers.{add_sat}
use Rattle.types.specs.declared.entry.OpSend.{OpSend}
use Rattle.queue.specs.Queue.{Outgoing, Queue, with_out}
use Rattle.queue.specs.Tables.{frames_of, frames_for, fronted}
use Rattle.producer.proofs.Fronts.{fronted_both, fronted_none}

-- ── what is kept of a list that is one longer ──

keeping_last : (p : OpSend → Bool) (l : List OpSend) (x : OpSend) → keeping p (l ++ x ∷ []) ≡ keeping p l ++ pick (p x) (x ∷ []) []
keeping_last p [] x = refl
keeping_last p (y ∷ l) x = go (p y) (keeping_last p l x)
  where
    go : (b : Bool) → keeping p (l ++ x ∷ []) ≡ keeping p l ++ pick (p x) (x ∷ []) []
        → pick b (y ∷ keeping p (l ++ x ∷ [])) (keeping p (l ++ x ∷ [])) ≡ pick b (y ∷ keeping p l) (keeping p l) ++ pick (p x) (x ∷ []) []
    go true e = ap (λ (r : List OpSend). y ∷ r) e
    go false e = e

pub keeping_next : (p : OpSend → Bool) (l : List OpSend) (k : ℕ) (x : OpSend) (b : Bool) → k < length l → get_or l k x ≡ x → p x ≡ b
    → keeping p (take (k + 1) l) ≡ keeping p (take k l) ++ pick b (x ∷ []) []
keeping_next p l k x b h e t =
    ap (λ (n : ℕ). keeping p (take n l)) (add-one k)
    ∙ ap (keeping p) (take-suc l k x h)
    ∙ ap (λ (y : OpSend). keeping p (take k l ++ y ∷ [])) e
    ∙ keeping_last p (take k l) x
    ∙ ap (λ (c : Bool). keeping p (take k l) ++ pick c (x ∷ []) []) t

frames_last : (l : List OpSend) (x : OpSend) → frames_for (l ++ x ∷ []) ≡ frames_for l + frames_of x.publish.replay
frames_last [] x = omega arith
frames_last (y ∷ l) x = let e = frames_last l x in omega (arith, e)

-- ── the sum ──

pub record Summing (p : OpSend → Bool) (l : List OpSend) (sum k : ℕ) : Type 0 where
  pub low : k ≤ length l
  pub same : sum ≡ add_sat 0 (frames_for (keeping p (take k l)))

pub summing_step : (p : OpSend → Bool) (l : List OpSend) (sum k : ℕ) (x : OpSend) → Summing p l sum k → k < length l → get_or l k x ≡ x
    → Summing p l (add_sat sum (pick (p x) (frames_of x.publish.replay) 0)) (k + 1)
summing_step p l sum k x s h e = record { low = omega arith; same = go (p x) refl }
  where
    go : (b : Bool) → p x ≡ b → add_sat sum (pick b (frames_of x.publish.replay) 0) ≡ add_sat 0 (frames_for (keeping p (take (k + 1) l)))
    go true t =
        let q = ap frames_for (keeping_next p l k x true h e t) ∙ frames_last (keeping p (take k l)) x in
        let r : add_sat sum (frames_of x.publish.replay) ≡ add_sat 0 (frames_for (keeping p (take k l)) + frames_of x.publish.replay) = omega (arith, s.same) in
        r ∙ ap (add_sat 0) (sym q)
    go false t =
        let q = ap frames_for (keeping_next p l k x false h e t ∙ append-nil (keeping p (take k l))) in
        let r : add_sat sum 0 ≡ add_sat 0 (frames_for (keeping p (take k l))) = omega (arith, s.same) in
        r ∙ ap (add_sat 0) (sym q)

pub summing_end : (p : OpSend → Bool) (l : List OpSend) (sum k : ℕ) → Summing p l sum k → length l ≤ k → sum ≡ add_sat 0 (frames_for (keeping p l))
summing_end p l sum k s h = s.same ∙ ap (λ (m : List OpSend). add_sat 0 (frames_for (keeping p m))) (take_all k l h)

-- ── their frames, from the last entry on ──

module _ (p : OpSend → Bool) (q : Queue) where
  pub record Freeing (s : Queue) (k : ℕ) : Type 0 where
    pub pending : s.pending ≡ q.pending
    pub fits : s.out.waiting < 2 ^ 64
    pub left : with_out (fronted (keeping p (take k q.pending)) s.out) s ≡ with_out (fronted (keeping p q.pending) q.out) q

  pub freeing_start : (k : ℕ) → q.out.waiting < 2 ^ 64 → length q.pending ≤ k → Freeing q k
  freeing_start k fits h = record { pending = refl; fits = fits; left = ap (λ (l : List OpSend). with_out (fronted (keeping p l) q.out) q) (take_all k q.pending h) }

  pub freeing_passed : (s : Queue) (k : ℕ) (x : OpSend) → Freeing s (k + 1) → k < length q.pending → get_or s.pending k x ≡ x → p x ≡ false → Freeing s k
  freeing_passed s k x f h e t =
      let there = ap (λ (l : List OpSend). get_or l k x) (sym f.pending) ∙ e in
      record {
        pending = f.pending;
        fits = f.fits;
        left =
            ap (λ (l : List OpSend). with_out (fronted l s.out) s)
            (sym (keeping_next p q.pending k x false h there t ∙ append-nil (keeping p (take k q.pending))))
            ∙ f.left;
      }

  pub freeing_fronted : (s t : Queue) (k : ℕ) (x : OpSend) → Freeing s (k + 1) → k < length q.pending → get_or s.pending k x ≡ x → p x ≡ true
      → t ≡ with_out (fronted (x ∷ []) s.out) s → Freeing t k
  freeing_fronted s t k x f h e b stored =
      let there = ap (λ (l : List OpSend). get_or l k x) (sym f.pending) ∙ e in
      record {
        pending = ap (λ (u : Queue). u.pending) stored ∙ f.pending;
        fits = omega (arith, ap (λ (u : Queue). u.out.waiting) stored);
        left =
            ap (λ (u : Queue). with_out (fronted (keeping p (take k q.pending)) u.out) u) stored
            ∙ ap (λ (o : Outgoing). with_out o s)
            (fronted_both (keeping p (take k q.pending)) (x ∷ []) s.out
            ∙ ap (λ (l : List OpSend). fronted l s.out) (sym (keeping_next p q.pending k x true h there b)))
            ∙ f.left;
      }

  pub freeing_end : (s : Queue) → Freeing s 0 → s ≡ with_out (fronted (keeping p q.pending) q.out) q
  freeing_end s f = ap (λ (o : Outgoing). with_out o s) (fronted_none s.out f.fits) ∙ f.left
