-- The slot of a place, as it is worked out without a sum that could pass the largest number. Assumes nothing.
use Prim.Native.Nat.{ℕ, ◌+◌, ◌-◌, ◌%◌, ◌<◌, ◌≤◌}
use mathlib.Core.Bool.{Bool}
use mathlib.Core.Path.{◌≡◌, ap, sym, ◌∙◌}
use native.Mathlib.Nat.{mod-lt, add-mod-mod}
use native.Mathlib.Omega.{arith}
use Rattle.std.proofs.Common.{ne_eqb}
use Rattle.laws.specs.Choice.{pick}
use Rattle.laws.specs.Ring.{slot}
use Rattle.laws.proofs.Slots.{wrap_low, wrap_high}
use Rattle.rules.specs.Rings.{slot_of}

-- a ring that has a slot
pub slot_as : (n h i : ℕ) → 0 < n → slot n h i ≡ slot_of n h i
slot_as n h i p = sym (ap (λ (t : Bool). pick t 0 (slot n h i)) (ne_eqb n 0 (λ e. omega arith)))

-- the place read around the ring
around : (n h i : ℕ) → 0 < n → (h % n + i % n) % n ≡ slot_of n h i
around n h i p = add-mod-mod (h % n) i n ∙ slot_as n h i p

pub slot_on : (n h i : ℕ) → 0 < n → i % n < n - h % n → h % n + i % n ≡ slot_of n h i
slot_on n h i p l = sym (wrap_low (omega arith)) ∙ around n h i p

pub slot_back : (n h i : ℕ) → 0 < n → n - h % n ≤ i % n → i % n - (n - h % n) ≡ slot_of n h i
slot_back n h i p l =
    let a : h % n < n = mod-lt h p in
    let b : i % n < n = mod-lt i p in
    let e : i % n - (n - h % n) ≡ h % n + i % n - n = omega arith in
    e ∙ sym (wrap_high (omega arith) (omega arith)) ∙ around n h i p
