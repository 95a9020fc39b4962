-- Laws of a record's store at a place. Assumes nothing.
use Rattle.std.specs.Prelude.{Option, Some, None}
use Rattle.std.proofs.Common.{◌≡◌, ℕ, List, length, refl}
use lib.ListN.{length-set}
use Rattle.laws.specs.Lists.{set_at}
use Rattle.plans.specs.Delta.{put_at}
use Rattle.plans.specs.declared.delta.Put.{Put}
use Rattle.producer.specs.Apply.{stored}

pub length_stored : {A B : Type 0} (part : A → B) (p : Option (Put A)) (l : List B) → length (stored part p l) ≡ length l
length_stored part None l = refl
length_stored part (Some p) l = simp length-set

pub stored_at : {A B : Type 0} (part : A → B) (place : Option ℕ) (x : A) (l : List B) → stored part (put_at place x) l ≡ set_at place l (part x)
stored_at part None x l = refl
stored_at part (Some i) x l = refl
