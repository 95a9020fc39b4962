-- A row stored behind the last one of a ring: what the planned push stores. Assumes nothing.
use Rattle.std.specs.Prelude.{Option, Some, None}
use Rattle.std.proofs.Common.{◌≡◌, ℕ, List, map, sym, refl, ap, ◌∙◌}
use Rattle.std.proofs.lemmas.List.{map-set}
use Rattle.laws.specs.Lists.{set_at}
use Rattle.plans.specs.Delta.{put_at}
use Rattle.producer.specs.Apply.{stored}
use Rattle.producer.proofs.Stores.{stored_at}

map_set_at : {A B : Type 0} (f : A → B) (place : Option ℕ) (l : List A) (x : A) → map f (set_at place l x) ≡ set_at place (map f l) (f x)
map_set_at f None l x = refl
map_set_at f (Some i) l x = map-set f l i x

-- by the slots that the code leaves, and its place
pub behind : {A B C : Type 0} (decode : A → B) (part : C → B) (l slots : List A) (place planned : Option ℕ) (row : A) (x : C)
    → slots ≡ set_at place l row → place ≡ planned → decode row ≡ part x
    → map decode slots ≡ stored part (put_at planned x) (map decode l)
behind decode part l slots place planned row x e p d =
    ap (map decode) e
    ∙ map_set_at decode place l row
    ∙ (λ j. set_at (p j) (map decode l) (d j))
    ∙ sym (stored_at part planned x (map decode l))

-- of numbers, which stand for themselves
pub behind_same : {B C : Type 0} (part : C → B) (l slots : List B) (place planned : Option ℕ) (x : C)
    → slots ≡ set_at place l (part x) → place ≡ planned → slots ≡ stored part (put_at planned x) l
behind_same part l slots place planned x e p = e ∙ ap (λ (o : Option ℕ). set_at o l (part x)) p ∙ sym (stored_at part planned x l)
