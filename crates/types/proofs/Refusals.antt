-- A refusal is known by its number and its values: two that answer the same are the same. Assumes nothing.
use Prim.Native.Nat.{ℕ}
use mathlib.Core.List.{List, [], ◌∷◌}
use mathlib.Core.Path.{◌≡◌, refl, sym, ◌∙◌}
use lib.ListN.{get_or}
use Rattle.types.specs.Refusals.{number_of, values_of}
use Rattle.types.specs.declared.error.ProducerError.{ProducerError}
use Rattle.types.specs.declared.error.ProducerError.TheVariants.{Closed, PartOutside, OverBound, OutboundFull, HeldFull, MessageTooLarge, PendingFull, SettingOverBound, TooShort, NoFrame, NotAnswerable, MalformedEntry}

-- the refusal of a number and values; 0, which is none, reads as 1
refusal_of : ℕ → List ℕ → ProducerError
refusal_of n values =
    get_or
    (Closed ∷ Closed ∷ PartOutside ∷ OverBound ∷ OutboundFull ∷ HeldFull ∷ MessageTooLarge (get_or values 0 0) (get_or values 1 0)
    ∷ PendingFull ∷ SettingOverBound ∷ TooShort ∷ NoFrame ∷ NotAnswerable ∷ MalformedEntry ∷ [])
    n
    Closed

read_back : (e : ProducerError) → refusal_of (number_of e) (values_of e) ≡ e
unfolding refusal_of
read_back Closed = refl
read_back PartOutside = refl
read_back OverBound = refl
read_back OutboundFull = refl
read_back HeldFull = refl
read_back (MessageTooLarge size limit) = refl
read_back PendingFull = refl
read_back SettingOverBound = refl
read_back TooShort = refl
read_back NoFrame = refl
read_back NotAnswerable = refl
read_back MalformedEntry = refl

pub same_refusal : (a b : ProducerError) → number_of a ≡ number_of b → values_of a ≡ values_of b → a ≡ b
same_refusal a b n v = sym (read_back a) ∙ (λ j. refusal_of (n j) (v j)) ∙ read_back b
