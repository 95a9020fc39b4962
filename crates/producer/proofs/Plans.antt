-- What a plan tells that refuses by one test, from its answer. Assumes nothing.
use Rattle.std.specs.Prelude.{Err, None, Ok, Option, Result, Some, ok_or}
use Rattle.std.proofs.Common.{◌≡◌, Bool, true, false, refl, ap}
use Rattle.laws.specs.Choice.{pick}
use Rattle.laws.proofs.Choice.{differ}
use Rattle.types.specs.declared.error.ProducerError.{ProducerError}

pub ok_of : {A : Type 0} (b : Bool) (x y : A) (e : ProducerError) → ◌≡◌ {A = Result A ProducerError} (pick b (Err e) (Ok x)) (Ok y) → (b ≡ false) × (x ≡ y)
ok_of true x y e p = differ (cc)
ok_of false x y e p = (refl, cc)

pub err_of : {A : Type 0} (b : Bool) (x : A) (e f : ProducerError) → ◌≡◌ {A = Result A ProducerError} (pick b (Err e) (Ok x)) (Err f) → (b ≡ true) × (e ≡ f)
err_of true x e f p = (refl, cc)
err_of false x e f p = differ (cc)

-- the same where the test is that it fits
pub ok_then : {A : Type 0} (b : Bool) (x y : A) (e : ProducerError) → ◌≡◌ {A = Result A ProducerError} (pick b (Ok x) (Err e)) (Ok y) → (b ≡ true) × (x ≡ y)
ok_then true x y e p = (refl, cc)
ok_then false x y e p = differ (cc)

pub err_else : {A : Type 0} (b : Bool) (x : A) (e f : ProducerError) → ◌≡◌ {A = Result A ProducerError} (pick b (Ok x) (Err e)) (Err f) → (b ≡ false) × (e ≡ f)
err_else true x e f p = differ (cc)
err_else false x e f p = (refl, cc)

-- what `ok_or` tells of the option
pub or_ok : {A : Type 0} (o : Option A) (e : ProducerError) (x : A) → ok_or o e ≡ Ok x → o ≡ Some x
or_ok None e x p = differ (cc)
or_ok (Some y) e x p = let same : y ≡ x = cc in ap Some same

pub or_err : {A : Type 0} (o : Option A) (e f : ProducerError) → ◌≡◌ {A = Result A ProducerError} (ok_or o e) (Err f) → (o ≡ None) × (e ≡ f)
or_err None e f p = (refl, cc)
or_err (Some y) e f p = differ (cc)
