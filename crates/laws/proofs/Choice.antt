-- Tests and the choices that hang on them. Assumes nothing.
use Prim.Native.Nat.{ℕ}
use mathlib.Core.Bool.{Bool, true, false, ◌&&◌, ◌||◌}
use mathlib.Core.Path.{◌≡◌, refl, ap}
use native.Mathlib.Omega.{arith}
use Rattle.laws.specs.Choice.{pick}

module _ {A : Type 0} {b : Bool} (x y : A) where
  pub pick_true : b ≡ true → pick b x y ≡ x
  pick_true e = ap (λ (t : Bool). pick t x y) e

  pub pick_false : b ≡ false → pick b x y ≡ y
  pick_false e = ap (λ (t : Bool). pick t x y) e

-- what holds of both values holds of the one chosen: a chain of refusals is walked test by test
pub pick_ind : {A : Type 0} (P : A → Type 0) (b : Bool) (x y : A) → (b ≡ true → P x) → (b ≡ false → P y) → P (pick b x y)
pick_ind P true x y f g = f refl
pick_ind P false x y f g = g refl

-- what is made of both values is made of the one chosen
pub pick_through : {A B : Type 0} (f : A → B) (b : Bool) (x y : A) (u v : B) → u ≡ f x → v ≡ f y → pick b u v ≡ f (pick b x y)
pick_through f true x y u v e g = e
pick_through f false x y u v e g = g

-- values that differ, by `cc`
pub differ : {P : Type 0} → ◌≡◌ {A = ℕ} 0 1 → P
differ h = absurd (omega arith)

pub false_true : {P : Type 0} → ◌≡◌ {A = Bool} false true → P
false_true h = differ (cc)

pub and_left : (a b : Bool) → (a && b) ≡ true → a ≡ true
and_left true b h = refl
and_left false b h = h

pub and_right : (a b : Bool) → (a && b) ≡ true → b ≡ true
and_right true b h = h
and_right false b h = false_true h

pub or_left : (a b : Bool) → (a || b) ≡ false → a ≡ false
or_left true b h = h
or_left false b h = refl

pub or_right : (a b : Bool) → (a || b) ≡ false → b ≡ false
or_right true b h = false_true (cc)
or_right false b h = h
