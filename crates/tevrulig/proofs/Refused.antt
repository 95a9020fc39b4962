-- A call that is refused: its number tells what the answer says, since no call but a send answers values. Assumes nothing.
use Rattle.std.specs.Prelude.{Result, Ok, Err}
use Rattle.std.proofs.Common.{◌≡◌, ℕ, List, [], sym, refl, ap, ◌∙◌}
use Rattle.laws.proofs.Choice.{differ}
use Rattle.types.specs.Refusals.{number_of, values_of}
use Rattle.types.specs.declared.error.ProducerError.{ProducerError}
use Rattle.types.specs.declared.error.ProducerError.TheVariants.{Closed, PartOutside, OverBound, OutboundFull, HeldFull, MessageTooLarge, PendingFull, SettingOverBound, TooShort, NoFrame, NotAnswerable, MalformedEntry}
use Rattle.queue.specs.Queue.{Queue, Answer, Outcome, refused}
use Rattle.queue.specs.Told.{told, told_error}
use Rattle.queue.specs.Values.{NoValues, bare, given}
use Rattle.tevrulig.specs.Answers.{answered, status_answer, status_of}

module _ {A : Type 0} where
  is_error : (e : ProducerError) (x : A) → values_of e ≡ [] → answered (number_of e) x ≡ told_error e
  is_error Closed x v = refl
  is_error PartOutside x v = refl
  is_error OverBound x v = refl
  is_error OutboundFull x v = refl
  is_error HeldFull x v = refl
  is_error (MessageTooLarge size limit) x v = differ (cc)
  is_error PendingFull x v = refl
  is_error SettingOverBound x v = refl
  is_error TooShort x v = refl
  is_error NoFrame x v = refl
  is_error NotAnswerable x v = refl
  is_error MalformedEntry x v = refl

  values : (o : Outcome A) → NoValues o → (q : Queue) (n : ℕ) (vs : List ℕ) → o ≡ (q, refused n vs) → vs ≡ []
  values o (bare p k) q n vs e = cc (ap (λ (x : Outcome A). x.1) e)
  values o (given p x) q n vs e = differ (cc (ap (λ (y : Outcome A). y.1) e))

  pub refused_is : (o : Outcome A) → NoValues o → (q : Queue) (a : Answer A) (e : ProducerError) → a ≡ told_error e → ◌≡◌ {A = Outcome A} (q, a) o
      → (n : ℕ) → n ≡ number_of e → (x : A) → ◌≡◌ {A = Outcome A} (q, answered n x) o
  refused_is o none q a e is m n num x =
      let met : ◌≡◌ {A = Outcome A} (q, told_error e) o = (λ j. (q, sym is j)) ∙ m in
      let v = values o none q (number_of e) (values_of e) (sym met) in
      (λ j. (q, (ap (λ (k : ℕ). answered k x) num ∙ is_error e x v) j)) ∙ met

-- of a call that gives nothing
pub status_is : (o : Outcome (Unit {0})) → NoValues o → (q : Queue) (r : Result (Unit {0}) ProducerError) → ◌≡◌ {A = Outcome (Unit {0})} (q, told r) o
    → (n : ℕ) → n ≡ status_of r → ◌≡◌ {A = Outcome (Unit {0})} (q, status_answer n) o
status_is o none q (Ok x) m n num = (λ j. (q, status_answer (num j))) ∙ m
status_is o none q (Err e) m n num = refused_is o none q (told_error e) e refl m n num tt
