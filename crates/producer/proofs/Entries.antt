-- Laws of pending entries put together from three arrays: length, elements, a store at one place. Assumes nothing.
use Rattle.std.specs.Prelude.{Option, Some, None}
use Rattle.std.proofs.Common.{◌≡◌, ℕ, zero, suc, ◌<◌, Bool, true, false, not, eqb, List, [], ◌∷◌, map, length, get_or, set, sym, refl, ap, ◌∙◌, arith}
use Rattle.laws.specs.Choice.{pick}
use Rattle.laws.specs.Lists.{set_at}
use Rattle.types.specs.declared.entry.OpSend.{OpSend}
use Rattle.types.specs.declared.entry.Publish.{Publish}
use Rattle.types.specs.declared.types.SequenceId.{SequenceId}
use Rattle.queue.specs.Settle.{unmark}
use Rattle.upkeep.specs.Pending.{Key, keys, cleared, cleared_all}
use Rattle.upkeep.proofs.Keys.{no_id}
use Rattle.std.specs.Int.{from_bool}
use Rattle.plans.specs.Delta.{put_at}
use Rattle.producer.specs.Apply.{stored}
use Rattle.producer.specs.View.{entry_of, entries}
use Rattle.producer.specs.Settle.{key_of}

pub length_entries : (n : ℕ) (is : List SequenceId) (ms : List ℕ) (ps : List Publish) → length is ≡ n → length ms ≡ n → length ps ≡ n → length (entries is ms ps) ≡ n
length_entries n [] ms ps a b c = a
length_entries n (i ∷ is) [] ps a b c = b
length_entries n (i ∷ is) (m ∷ ms) [] a b c = c
length_entries zero (i ∷ is) (m ∷ ms) (p ∷ ps) a b c = absurd (omega arith)
length_entries (suc n) (i ∷ is) (m ∷ ms) (p ∷ ps) a b c = ap suc (length_entries n is ms ps (omega arith) (omega arith) (omega arith))

pub entries_at : (is : List SequenceId) (ms : List ℕ) (ps : List Publish) (k : ℕ) (d : Publish) (x : OpSend) → k < length is → k < length ms → k < length ps
    → get_or (entries is ms ps) k x ≡ entry_of (get_or is k no_id) (get_or ms k 0) (get_or ps k d)
entries_at [] ms ps k d x a b c = absurd (omega arith)
entries_at (i ∷ is) [] ps k d x a b c = absurd (omega arith)
entries_at (i ∷ is) (m ∷ ms) [] k d x a b c = absurd (omega arith)
entries_at (i ∷ is) (m ∷ ms) (p ∷ ps) zero d x a b c = refl
entries_at (i ∷ is) (m ∷ ms) (p ∷ ps) (suc k) d x a b c = entries_at is ms ps k d x (omega arith) (omega arith) (omega arith)

pub entries_set : (is : List SequenceId) (ms : List ℕ) (ps : List Publish) (k : ℕ) (i : SequenceId) (m : ℕ) (p : Publish)
    → entries (set is k i) (set ms k m) (set ps k p) ≡ set (entries is ms ps) k (entry_of i m p)
entries_set [] ms ps k i m p = refl
entries_set (x ∷ is) [] ps zero i m p = refl
entries_set (x ∷ is) [] ps (suc k) i m p = refl
entries_set (x ∷ is) (y ∷ ms) [] zero i m p = refl
entries_set (x ∷ is) (y ∷ ms) [] (suc k) i m p = refl
entries_set (x ∷ is) (y ∷ ms) (z ∷ ps) zero i m p = refl
entries_set (x ∷ is) (y ∷ ms) (z ∷ ps) (suc k) i m p = ap (λ (l : List OpSend). entry_of x y z ∷ l) (entries_set is ms ps k i m p)

-- their ids and marks
pub keys_entries : (is : List SequenceId) (ms : List ℕ) (ps : List Publish) → length is ≡ length ps → map key_of (entries is ms ps) ≡ keys is ms
keys_entries [] ms ps e = refl
keys_entries (i ∷ is) [] ps e = refl
keys_entries (i ∷ is) (m ∷ ms) [] e = absurd (omega arith)
keys_entries (i ∷ is) (m ∷ ms) (p ∷ ps) e = ap (λ (l : List Key). (i.0, not (eqb m 0)) ∷ l) (keys_entries is ms ps (omega arith))

-- clearing the marks of an id is unmarking each entry
unmarked_one : (id : ℕ) (i : SequenceId) (m : ℕ) (p : Publish) → entry_of i (cleared id i.0 m) p ≡ unmark id (entry_of i m p)
unmarked_one id i m p = go (eqb i.0 id)
  where
    go : (b : Bool)
        → ◌≡◌ {A = OpSend} (entry_of i (pick b 0 m) p)
        (record { sequence_id = i; answerable = pick b false (not (eqb m 0)); publish = p })
    go true = refl
    go false = refl

pub unmarked_entries : (id : ℕ) (is : List SequenceId) (ms : List ℕ) (ps : List Publish) → entries is (cleared_all id is ms) ps ≡ map (unmark id) (entries is ms ps)
unmarked_entries id [] ms ps = refl
unmarked_entries id (i ∷ is) [] ps = refl
unmarked_entries id (i ∷ is) (m ∷ ms) [] = refl
unmarked_entries id (i ∷ is) (m ∷ ms) (p ∷ ps) = λ j. unmarked_one id i m p j ∷ unmarked_entries id is ms ps j

-- an answerable entry's three parts at a place
pub entries_put : (place : Option ℕ) (is : List SequenceId) (ms : List ℕ) (ps : List Publish) (op : OpSend) → op.answerable ≡ true
    → entries (stored (λ (x : OpSend). x.sequence_id) (put_at place op) is) (stored (λ (x : OpSend). from_bool x.answerable) (put_at place op) ms)
    (stored (λ (x : OpSend). x.publish) (put_at place op) ps)
    ≡ set_at place (entries is ms ps) op
entries_put None is ms ps op e = refl
entries_put (Some k) is ms ps op e =
    (λ j. entries (set is k op.sequence_id) (set ms k (from_bool (e j))) (set ps k op.publish))
    ∙ entries_set is ms ps k op.sequence_id 1 op.publish
    ∙ (λ j. set (entries is ms ps) k (record op { answerable = sym e j }))
