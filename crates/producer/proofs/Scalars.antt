-- Operations that change scalars alone: the queue_of of the state with the planned scalars is the definition's queue. Assumes nothing.
use Rattle.std.specs.Prelude.{Err, Ok, Result}
use Rattle.std.proofs.Common.{◌≡◌, ℕ, Bool, true, false, leb, List, length, sym, refl, subst}
use Rattle.laws.specs.Choice.{pick}
use Rattle.types.specs.Bounds.{longest_name}
use Rattle.types.specs.declared.settings.Setting.{Setting}
use Rattle.queue.specs.Queue.{Outcome, done, refuse, with_settings}
use Rattle.queue.specs.Settings.{allowed, changed, set, set_name, name_from, with_name, close}
use Rattle.queue.specs.Ids.{set_initial_sequence_id}
use Rattle.queue.specs.Told.{told, Kept}
use Rattle.plans.specs.State.{core_settings}
use Rattle.plans.specs.Settings.{set_planned, name_planned, closed_core}
use Rattle.plans.specs.Ids.{with_initial_id}
use Rattle.plans.specs.declared.state.Core.{Core}
use Rattle.types.specs.declared.error.ProducerError.{ProducerError}
use Rattle.types.specs.declared.error.ProducerError.TheVariants.{SettingOverBound}
use Rattle.producer.specs.Apply.{store_core}
use Rattle.producer.specs.Settings.{Changes}
use Rattle.producer.specs.View.{queue_of, view}
use Rattle.producer.specs.State.{State, state_of}
use Rattle.producer.specs.declared.state.ProducerState.{ProducerState}

abbrev pub with_core : Core → State → State
with_core c s = store_core c s

-- what a planned setting says of the state that it is applied to
module _ (s t : ProducerState) (answer : Result (Unit {0}) ProducerError) where
  abbrev pub Sets : Outcome (Unit {0}) → Type 0
  Sets o = ◌≡◌ {A = Outcome (Unit {0})} (view t, told answer) o × Kept (told answer) s t

  stored : (c : Core) → Changes (Ok c) s t answer → Sets (queue_of (store_core c (state_of s)), done tt)
  stored c h = ((λ j. (queue_of (h.0 j), told (h.1 j))), subst (λ (a : Result (Unit {0}) ProducerError). Kept (told a) s t) (sym h.1) tt)

  stays : Changes (Err SettingOverBound) s t answer → Sets (refuse 8 (view s))
  stays h = ((λ j. (view (h.0 j), told (h.1 j))), subst (λ (a : Result (Unit {0}) ProducerError). Kept (told a) s t) (sym h.1) h.0)

  pub sets : (x : Setting) → Changes (set_planned x (state_of s).core) s t answer → Sets (set x (view s))
  unfolding set queue_of
  sets x = go (allowed x)
    where
      go : (b : Bool)
          → Changes (pick b (Ok (core_settings (changed x (state_of s).core.settings) (state_of s).core)) (Err SettingOverBound)) s t answer
          → Sets (pick b (with_settings (changed x (view s).settings) (view s), done tt) (refuse 8 (view s)))
      go true h = stored _ h
      go false h = stays h

  pub names : (name : List ℕ) → Changes (name_planned name (state_of s).core) s t answer → Sets (set_name name (view s))
  unfolding set_name queue_of
  names name = go (leb (length name) longest_name)
    where
      go : (b : Bool)
          → Changes (pick b (Ok (core_settings (with_name (name_from name) (state_of s).core.settings) (state_of s).core)) (Err SettingOverBound)) s t answer
          → Sets (pick b (with_settings (with_name (name_from name) (view s).settings) (view s), done tt) (refuse 8 (view s)))
      go true h = stored _ h
      go false h = stays h

module _ (s : State) where
  pub closes : queue_of (with_core (closed_core s.core) s) ≡ close (queue_of s)
  unfolding close queue_of
  closes = refl

  pub starts : (next : ℕ) → queue_of (with_core (with_initial_id next s.core) s) ≡ set_initial_sequence_id next (queue_of s)
  unfolding set_initial_sequence_id queue_of
  starts next = refl
