-- Where the elements of a ring lie. Assumes nothing.
use mathlib.Core.Path.{◌≡◌, ap, sym, ◌∙◌}
use mathlib.Core.Logic.{◌⊎◌, inl, inr, ⊎_elim}
use mathlib.Core.List.{List}
use Prim.Native.Nat.{ℕ, ◌+◌, ◌-◌, ◌%◌, ◌≤◌, ◌<◌}
use native.Mathlib.Nat.{mod-lt, mod-eq_of_lt, mod-eq-sub-mod, mod-mod, mod-add-mod, add-mod_right, add_assoc, add-zero}
use native.Mathlib.Omega.{arith}
use native.Mathlib.Decide.{dec_lt}
use lib.ListN.{length, get_or, set}
use lib.Seq.{get_or-set_same, get_or-set_other}
use Rattle.laws.specs.Ring.{slot}

-- a number below twice the capacity, wrapped
pub wrap_low : {cap k : ℕ} → k < cap → k % cap ≡ k
wrap_low h = mod-eq_of_lt h

pub wrap_high : {cap k : ℕ} → cap ≤ k → k < cap + cap → k % cap ≡ k - cap
wrap_high {cap} {k} h l = mod-eq-sub-mod h ∙ mod-eq_of_lt (omega arith)

pub slot_below : (cap h i : ℕ) → 0 < cap → slot cap h i < cap
slot_below cap h i p = mod-lt (h % cap + i) p

pub slot_zero : (cap h : ℕ) → slot cap h 0 ≡ h % cap
slot_zero cap h = ap (λ (k : ℕ). k % cap) (add-zero (h % cap)) ∙ mod-mod h cap

-- a place counted from a place
pub slot_slot : (cap h i j : ℕ) → slot cap (slot cap h i) j ≡ slot cap h (i + j)
slot_slot cap h i j =
    ap (λ (k : ℕ). (k + j) % cap) (mod-mod (h % cap + i) cap) ∙ mod-add-mod (h % cap + i) cap j ∙ ap (λ (k : ℕ). k % cap) (add_assoc (h % cap) i j)

-- a whole turn on
pub slot_turn : (cap h : ℕ) → slot cap h cap ≡ h % cap
slot_turn cap h = add-mod_right (h % cap) cap ∙ mod-mod h cap

-- a slot is straight on from the head, or has wrapped once
abbrev pub Straight : ℕ → ℕ → ℕ → Type 0
Straight cap h i = (h % cap + i < cap) × (slot cap h i ≡ h % cap + i)

abbrev pub Wrapped : ℕ → ℕ → ℕ → Type 0
Wrapped cap h i = (cap ≤ h % cap + i) × (slot cap h i ≡ h % cap + i - cap)

pub slot_cases : (cap h i : ℕ) → 0 < cap → i ≤ cap → Straight cap h i ⊎ Wrapped cap h i
slot_cases cap h i p l = go (dec_lt (h % cap + i) cap)
  where
    go : Dec (h % cap + i < cap) → Straight cap h i ⊎ Wrapped cap h i
    go (yes x) = inl (x, wrap_low x)
    go (no x) = inr (omega arith, wrap_high (omega arith) (omega (arith, mod-lt h p)))

-- two places less than a turn apart are two slots
pub slot_apart : (cap h i j : ℕ) → 0 < cap → i < j → j < cap → slot cap h i ≡ slot cap h j → ⊥
slot_apart cap h i j p ij jc e =
    ⊎_elim
    (λ x. ⊎_elim (λ y. omega arith) (λ y. omega (arith, mod-lt h p)) (slot_cases cap h j p (omega arith)))
    (λ x. ⊎_elim (λ y. omega arith) (λ y. omega arith) (slot_cases cap h j p (omega arith)))
    (slot_cases cap h i p (omega arith))

-- what lies at a place after a store at the same or at another
pub get_d_slot_set : {A : Type 0} (cap : ℕ) (pos : 0 < cap) (d : A) (a : List A) → length a ≡ cap → (h i j : ℕ) (x : A) → i < cap → j < cap
    → (l : List A) → (i ≡ j → get_or l i d ≡ x) → ((i ≡ j → ⊥) → get_or l i d ≡ get_or a (slot cap h i) d)
    → get_or (set a (slot cap h j) x) (slot cap h i) d ≡ get_or l i d
get_d_slot_set {A} cap pos d a len h i j x il jl l same other = go (dec_lt i j) (dec_lt j i)
  where
    kept : (slot cap h i ≡ slot cap h j → ⊥) → (i ≡ j → ⊥) → get_or (set a (slot cap h j) x) (slot cap h i) d ≡ get_or l i d
    kept apart ne = get_or-set_other a (slot cap h j) (slot cap h i) x d apart ∙ sym (other ne)

    go : Dec (i < j) → Dec (j < i) → get_or (set a (slot cap h j) x) (slot cap h i) d ≡ get_or l i d
    go (yes p) q = kept (slot_apart cap h i j pos p jl) (λ e. omega arith)
    go (no p) (yes q) = kept (λ e. slot_apart cap h j i pos q il (sym e)) (λ e. omega arith)
    go (no p) (no q) =
        let e : i ≡ j = omega arith in
        let b : slot cap h j < length a = omega (arith, slot_below cap h j pos) in
        ap (λ (k : ℕ). get_or (set a (slot cap h j) x) (slot cap h k) d) e ∙ get_or-set_same a (slot cap h j) x d b ∙ sym (same e)
