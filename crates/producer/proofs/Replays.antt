-- The replays: what is planned and stored makes the queue and the answer of the definitions. Assumes nothing.
use Rattle.std.specs.Prelude.{Err, Ok, Result}
use Rattle.std.proofs.Common.{◌≡◌, ℕ, ◌+◌, ◌^◌, ◌<◌, ◌≤◌, min, Bool, true, false, not, ltb, List, map, length, sym, refl, ap, ◌∙◌, arith, ltb-false, lt-ltb}
use native.Mathlib.Decide.{dec_lt}
use lib.ListN.{length-map}
use Rattle.laws.specs.Choice.{pick}
use Rattle.laws.specs.Lists.{front_all, keeping}
use Rattle.laws.specs.Numbers.{add_sat}
use Rattle.laws.proofs.Choice.{differ}
use Rattle.laws.proofs.Lists.{map_append}
use Rattle.laws.proofs.Pushes.{front_room}
use Rattle.types.specs.declared.types.SequenceId.{SequenceId}
use Rattle.types.specs.declared.entry.OpSend.{OpSend}
use Rattle.types.specs.declared.error.ProducerError.{ProducerError}
use Rattle.types.specs.declared.error.ProducerError.TheVariants.{OutboundFull, PendingFull, MalformedEntry}
use Rattle.queue.specs.Queue.{Queue, Outcome, done, refuse, with_out, with_pending}
use Rattle.queue.specs.Sizes.{outbound_size, pending_size}
use Rattle.queue.specs.Tables.{all_well_formed, frames_for, fronted, mark, put_back, unborne, replay_pending_outbound, replay_snapshots}
use Rattle.queue.specs.Told.{told_error}
use Rattle.tables.specs.Unborne.{free}
use Rattle.plans.specs.Replay.{replay_count, replay_answer}
use Rattle.producer.specs.Replay.{frame_id}
use Rattle.producer.specs.View.{queue_of}
use Rattle.producer.specs.State.{State}
use Rattle.producer.proofs.Full.{Full}
use Rattle.producer.proofs.Borne.{unborne_ids}
use Rattle.producer.proofs.Views.{pending_length}

-- where an answer leads: a refusal leaves the queue
abbrev pub ends_as : {A : Type 0} → Result A ProducerError → Queue → Queue → Outcome A
ends_as (Ok x) q after = (after, done x)
ends_as (Err e) q after = (q, told_error e)

-- a sum that would stop is over 1,024 where the sum is
sat_test : (w f : ℕ) → ltb outbound_size (w + add_sat 0 f) ≡ ltb outbound_size (w + f)
sat_test w f = go (dec_lt outbound_size (w + f))
  where
    go : Dec (outbound_size < w + f) → ltb outbound_size (w + add_sat 0 f) ≡ ltb outbound_size (w + f)
    go (yes p) = lt-ltb outbound_size (w + add_sat 0 f) (omega arith) ∙ sym (lt-ltb outbound_size (w + f) p)
    go (no p) = let e : add_sat 0 f ≡ f = omega arith in ap (λ (x : ℕ). ltb outbound_size (w + x)) e

-- ── `replay_pending_outbound` ──

module _ (s : State) where
  abbrev pub left : List OpSend
  left = unborne (queue_of s).out.frames (queue_of s).pending

  -- the entries chosen are those of the definition
  pub found : (ids : List SequenceId) → ids ≡ map frame_id (queue_of s).out.frames → keeping (free ids) (queue_of s).pending ≡ left
  found ids named =
      ap (λ (l : List SequenceId). keeping (free l) (queue_of s).pending) named ∙ unborne_ids (queue_of s).out.frames (queue_of s).pending

  pub counts : ends_as (replay_count (add_sat 0 (frames_for left)) s.core) (queue_of s) (with_out (fronted left (queue_of s).out) (queue_of s))
      ≡ replay_pending_outbound (queue_of s)
  unfolding queue_of replay_pending_outbound
  counts = go (dec_lt outbound_size (w + f))
    where
      w : ℕ
      w = s.core.rings.waiting

      f : ℕ
      f = frames_for left

      after : Queue
      after = with_out (fronted left (queue_of s).out) (queue_of s)

      go : Dec (outbound_size < w + f)
          → ends_as (pick (ltb outbound_size (w + add_sat 0 f)) (Err OutboundFull) (Ok (add_sat 0 f))) (queue_of s) after
          ≡ pick (ltb outbound_size (w + f)) (refuse 4 (queue_of s)) (after, done f)
      go (yes p) = rw (lt-ltb outbound_size (w + add_sat 0 f) (omega arith), lt-ltb outbound_size (w + f) p) refl
      go (no p) =
          let e : add_sat 0 f ≡ f = omega arith in
          ap (λ (x : ℕ). ends_as (pick (ltb outbound_size (w + x)) (Err OutboundFull) (Ok x)) (queue_of s) after) e ∙ last (ltb outbound_size (w + f))
        where
          last : (b : Bool) → ends_as (pick b (Err OutboundFull) (Ok f)) (queue_of s) after ≡ pick b (refuse 4 (queue_of s)) (after, done f)
          last true = refl
          last false = refl

-- ── `replay_snapshots` ──

module _ (s : State) where
  -- entries and frames at the front, one after the other
  abbrev pub replayed : List OpSend → Queue
  replayed l = with_out (fronted l (queue_of s).out) (with_pending (front_all pending_size (map mark l) (map mark (queue_of s).pending)) (queue_of s))

  -- where there is room for them
  in_room : (l : List OpSend) → length l + length (queue_of s).pending ≤ pending_size → replayed l ≡ put_back l (queue_of s)
  in_room l b =
      let x : length (map mark l) ≡ length l = length-map l mark in
      let y : length (map mark (queue_of s).pending) ≡ length (queue_of s).pending = length-map (queue_of s).pending mark in
      ap (λ (p : List OpSend). with_out (fronted l (queue_of s).out) (with_pending p (queue_of s)))
      (front_room pending_size (map mark l) (map mark (queue_of s).pending) (omega arith) ∙ sym (map_append mark l (queue_of s).pending))

  abbrev chosen : Bool → Bool → Bool → Result (Unit {0}) ProducerError
  chosen b1 b2 b3 = pick b1 (Err MalformedEntry) (pick b2 (Err PendingFull) (pick b3 (Err OutboundFull) (Ok tt)))

  -- where nothing refuses, few frames wait
  pub waiting_few : (b : Bool) (n k : ℕ) → Ok tt ≡ replay_answer b n k s.core → s.core.rings.waiting < 2 ^ 64
  waiting_few b n k is = go (not b) (ltb pending_size (n + min s.core.rings.pending.len pending_size)) (ltb outbound_size (s.core.rings.waiting + k)) refl is
    where
      go : (b1 b2 b3 : Bool) → ltb outbound_size (s.core.rings.waiting + k) ≡ b3 → Ok tt ≡ chosen b1 b2 b3 → s.core.rings.waiting < 2 ^ 64
      go true b2 b3 e h = differ (cc)
      go false true b3 e h = differ (cc)
      go false false true e h = differ (cc)
      go false false false e h = omega (arith, ltb-false outbound_size (s.core.rings.waiting + k) e)

  -- what is stored matters only where neither 12 nor 7 refuses
  by_tests : (b1 b2 b3 : Bool) (a a' : Queue) → (b2 ≡ false → a ≡ a')
      → ends_as (chosen b1 b2 b3) (queue_of s) a ≡ pick b1 (refuse 12 (queue_of s)) (pick b2 (refuse 7 (queue_of s)) (pick b3 (refuse 4 (queue_of s)) (a', done tt)))
  by_tests true b2 b3 a a' h = refl
  by_tests false true b3 a a' h = refl
  by_tests false false true a a' h = refl
  by_tests false false false a a' h = λ j. (h refl j, done tt)

  pub replays : Full s → (l : List OpSend)
      → ends_as (replay_answer (all_well_formed l) (length l) (add_sat 0 (frames_for l)) s.core) (queue_of s) (replayed l) ≡ replay_snapshots l (queue_of s)
  unfolding queue_of replay_snapshots
  replays f l =
      (λ j.
      ends_as (chosen (not (all_well_formed l)) (ltb pending_size (length l + sym (pending_length s f) j)) (sat_test s.core.rings.waiting (frames_for l) j)) (queue_of s)
      (replayed l))
      ∙ by_tests (not (all_well_formed l)) (ltb pending_size (length l + length (queue_of s).pending)) (ltb outbound_size (s.core.rings.waiting + frames_for l)) (replayed l)
      (put_back l (queue_of s)) (λ e. in_room l (ltb-false pending_size (length l + length (queue_of s).pending) e))
