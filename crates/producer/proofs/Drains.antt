-- Drains: what is planned is what the definitions hand out, and the state without it stands for their queue. Assumes nothing.
use Rattle.std.specs.Prelude.{Err, None, Ok, Option, Some, ℕ}
use Rattle.std.proofs.Common.{◌≡◌, ℕ, suc, ◌-◌, ◌≤◌, min, Bool, true, false, ltb, List, [], ◌∷◌, ◌++◌, map, length, take, drop, sym, refl, ap, ◌∙◌, subst, zero-le, arith, lit<, length-take-le, take_all, take_at, drop_at, le-ltb, ltb-false}
use lib.ListN.{length-map}
use Rattle.laws.specs.Choice.{pick}
use Rattle.laws.specs.Ring.{ring, slot}
use Rattle.laws.proofs.Lists.{map_drop, map_take}
use Rattle.laws.proofs.Rings.{ring_none, ring_map, ring_drops}
use Rattle.types.specs.declared.types.SequenceId.{SequenceId}
use Rattle.types.specs.declared.entry.OpSend.{OpSend}
use Rattle.types.specs.declared.entry.Publish.{Publish}
use Rattle.types.specs.declared.error.ProducerError.{ProducerError}
use Rattle.types.specs.declared.error.ProducerError.TheVariants.{TooShort}
use Rattle.rows.specs.Entry.{decode_entry}
use Rattle.rows.specs.declared.entry.OpSendRow.{OpSendRow}
use Rattle.queue.specs.Queue.{Queue, Answer, Outcome, refused, done, empty_outgoing, with_pending, with_out}
use Rattle.queue.specs.Ids.{elapsed, send_deadline}
use Rattle.queue.specs.Settle.{Handed, handed, due_count, unmark, unmark_all, hand_out, drain_timed_out_sends, table_after}
use Rattle.queue.specs.Sizes.{outbound_size, held_size, pending_size}
use Rattle.queue.specs.Tables.{drain_pending_sends}
use Rattle.upkeep.specs.Pending.{cleared_all}
use Rattle.tables.specs.Drain.{cleared_each, gone_count}
use Rattle.rules.specs.Blank.{no_entry}
use Rattle.upkeep.proofs.Keys.{length_cleared}
use Rattle.producer.specs.Tables.{MeetsDrain, Drains, gone_of, plan_of, drained_state}
use Rattle.producer.specs.View.{queue_of, entries, slots_of, view}
use Rattle.producer.specs.State.{State, state_of}
use Rattle.producer.specs.declared.state.ProducerState.{ProducerState}
use Rattle.producer.proofs.Entries.{length_entries, unmarked_entries}
use Rattle.producer.proofs.Full.{Full}
use Rattle.producer.proofs.Plans.{ok_of, err_of}

-- ── what is handed out ──

due_most : (time : ℕ) (timeout : Option ℕ) (l : List OpSend) → due_count time timeout l ≤ length l
due_most time timeout [] = zero-le
due_most time timeout (op ∷ l) = go (elapsed time (send_deadline timeout op)) (due_most time timeout l)
  where
    go : (b : Bool) → due_count time timeout l ≤ length l → pick b (suc (due_count time timeout l)) 0 ≤ length (op ∷ l)
    go true h = omega arith
    go false h = omega arith

abbrev count_of : Option ℕ → Queue → ℕ
count_of due q = gone_count due q.settings.delays.send_timeout q.pending

count_most : (due : Option ℕ) (q : Queue) → count_of due q ≤ length q.pending
count_most None q = omega arith
count_most (Some time) q = due_most time q.settings.delays.send_timeout q.pending

gone_is : (due : Option ℕ) (q : Queue) → take (count_of due q) q.pending ≡ gone_of due q
gone_is None q = take_all (length q.pending) q.pending (omega arith)
gone_is (Some time) q = refl

timeout_is : (s : State) → s.core.settings.delays.send_timeout ≡ (queue_of s).settings.delays.send_timeout
unfolding queue_of
timeout_is s = refl

-- what is planned, against the queue_of
module _ (s : State) (due : Option ℕ) (es : List OpSend) (e : es ≡ (queue_of s).pending) where
  planned_count : ℕ
  planned_count = gone_count due s.core.settings.delays.send_timeout es

  record Plans (n : ℕ) : Type 0 where
    gone : take n es ≡ gone_of due (queue_of s)
    many : n ≡ length (gone_of due (queue_of s))
    few : n ≤ length es

  plans : Plans planned_count
  unfolding planned_count
  plans =
      let most : count_of due (queue_of s) ≤ length (queue_of s).pending = count_most due (queue_of s) in
      let n : ℕ = gone_count due s.core.settings.delays.send_timeout es in
      let k : n ≡ count_of due (queue_of s) = λ j. gone_count due (timeout_is s j) (e j) in
      let first : take n es ≡ gone_of due (queue_of s) =
      ap (take n) e
      ∙ ap (λ (j : ℕ). take j (queue_of s).pending) k
      ∙ gone_is due (queue_of s) in
      let many : n ≡ length (gone_of due (queue_of s)) =
      k ∙ sym (length-take-le (count_of due (queue_of s)) (queue_of s).pending most) ∙ ap length (gone_is due (queue_of s)) in
      record { gone = first; many = many; few = omega (arith, ap length e) }

-- ── what is left ──

unmark_drop : (gone : List OpSend) (n : ℕ) (l : List OpSend) → drop n (unmark_all gone l) ≡ unmark_all gone (drop n l)
unmark_drop [] n l = refl
unmark_drop (op ∷ gone) n l =
    unmark_drop gone n (map (unmark op.sequence_id.0) l)
    ∙ ap (unmark_all gone) (sym (map_drop (unmark op.sequence_id.0) n l))

unmark_ring : (gone : List OpSend) (is : List SequenceId) (ms : List ℕ) (ps : List Publish) (h n : ℕ)
    → ring pending_size (entries is (cleared_each gone is ms) ps) h n ≡ unmark_all gone (ring pending_size (entries is ms ps) h n)
unmark_ring [] is ms ps h n = refl
unmark_ring (op ∷ gone) is ms ps h n =
    let id : ℕ = op.sequence_id.0 in
    unmark_ring gone is (cleared_all id is ms) ps h n
    ∙ ap (unmark_all gone)
    (ap (λ (l : List OpSend). ring pending_size l h n) (unmarked_entries id is ms ps) ∙ sym (ring_map (unmark id) pending_size (entries is ms ps) h n))

length_each : (gone : List OpSend) (is : List SequenceId) (ms : List ℕ) → length (cleared_each gone is ms) ≡ length ms
length_each [] is ms = refl
length_each (op ∷ gone) is ms = length_each gone is (cleared_all op.sequence_id.0 is ms) ∙ length_cleared op.sequence_id.0 is ms

-- the queue that a drain leaves
abbrev left_of : Option ℕ → Queue → Queue
left_of None q = with_out empty_outgoing (with_pending [] q)
left_of (Some time) q =
    with_pending (unmark_all (gone_of (Some time) q) (drop (count_of (Some time) q) q.pending)) q

abbrev drain_of : Option ℕ → ℕ → Queue → Outcome Handed
drain_of None room q = drain_pending_sends room q
drain_of (Some time) room q = drain_timed_out_sends time room q

meets : (due : Option ℕ) (room : ℕ) (s t : ProducerState) (told : Answer Handed)
    → ◌≡◌ {A = Outcome Handed} (view t, told) (drain_of due room (view s)) → MeetsDrain due room s t told
meets None room s t told e = e
meets (Some time) room s t told e = e

drain_is : (due : Option ℕ) (room : ℕ) (q : Queue) → drain_of due room q ≡ hand_out room (gone_of due q) q (left_of due q)
unfolding drain_pending_sends drain_timed_out_sends
drain_is None room q = refl
drain_is (Some time) room q = refl

left_view : (s : State) → Full s → (due : Option ℕ) (es : List OpSend) (p : ℕ) → take p es ≡ gone_of due (queue_of s)
    → p ≡ count_of due (queue_of s) → queue_of (drained_state due es p s) ≡ left_of due (queue_of s)
unfolding queue_of
left_view s f None es p e k =
    let c = s.core in
    let r = c.rings in
    λ j.
    record {
      handle = c.handle;
      settings = c.settings;
      ids = c.ids;
      counters = c.counters;
      pending = ring_none pending_size (slots_of (drained_state None es p s)) r.pending.head j;
      out = record {
        frames = ring_none outbound_size s.outbound r.outbound.head j;
        waiting = 0;
        held = ring_none held_size s.held r.held.head j;
        batch = empty_outgoing.batch;
      };
    }
left_view s f (Some time) es p e k =
    let c = s.core in
    let r = c.rings in
    let due : Option ℕ = Some time in
    let h : ℕ = r.pending.head in
    let n : ℕ = r.pending.len in
    let gone : List OpSend = take p es in
    let slots : List OpSend = slots_of (drained_state due es p s) in
    let len : length slots ≡ pending_size =
    length_entries pending_size s.pending_ids (cleared_each gone s.pending_ids s.pending_marks) s.pending f.ids
    (length_each gone s.pending_ids s.pending_marks ∙ f.marks) f.pending in
    let moved : ring pending_size slots (slot pending_size h (min p (min n pending_size))) (min n pending_size - min p (min n pending_size)) ≡ drop p (ring pending_size slots h n) =
    ring_drops pending_size (lit< tt) slots len no_entry h n p in
    let all : ring pending_size slots h n ≡ unmark_all gone (queue_of s).pending = unmark_ring gone s.pending_ids s.pending_marks s.pending h n in
    let same : drop p (unmark_all gone (queue_of s).pending) ≡ unmark_all (gone_of due (queue_of s)) (drop (count_of due (queue_of s)) (queue_of s).pending) =
    unmark_drop gone p (queue_of s).pending ∙ (λ j. unmark_all (e j) (drop (k j) (queue_of s).pending)) in
    λ j. with_pending ((moved ∙ ap (drop p) all ∙ same) j) (queue_of s)

-- ── the call ──

-- the count that is answered is the planned one
pub counted : (due : Option ℕ) (s : ProducerState) (ys : List OpSendRow) (m k : ℕ) (t : ProducerState) (zs : List OpSendRow)
    → m ≡ k → Drains due s ys (Ok k) t zs → Drains due s ys (Ok m) t zs
counted due s ys m k t zs e = subst (λ (n : ℕ). Drains due s ys (Ok n) t zs) (sym e)

-- a table whose start was written with the first k rows
pub start_is : (rows ys zs : List OpSendRow) (k : ℕ) → k ≤ length rows → k ≤ length ys → zs ≡ table_after (take (length ys) (take k rows)) ys
    → (take k zs ≡ take k rows) × (drop k zs ≡ drop k ys)
start_is rows ys zs k a b z =
    let n : length (take k rows) ≡ k = length-take-le k rows a in
    let all : take (length ys) (take k rows) ≡ take k rows = take_all (length ys) (take k rows) (omega (arith, n)) in
    let e : zs ≡ take k rows ++ drop k ys = z ∙ ap (λ (l : List OpSendRow). table_after l ys) all ∙ ap (λ (i : ℕ). take k rows ++ drop i ys) n in
    (ap (take k) e ∙ take_at (take k rows) (drop k ys) k n, ap (drop k) e ∙ drop_at (take k rows) (drop k ys) k n)

module _ (s : ProducerState) (due : Option ℕ) (rows : List OpSendRow) (e : map decode_entry rows ≡ (view s).pending) (ys : List OpSendRow) where
  abbrev es : List OpSend
  es = map decode_entry rows

  -- a plan that goes through, and one that does not
  record Fits (k : ℕ) : Type 0 where
    plan : Plans (state_of s) due es e k
    room : k ≤ length ys

  fits : (k : ℕ) → plan_of due es (length ys) (state_of s) ≡ Ok k → Fits k
  unfolding planned_count
  fits k p =
      let both = ok_of (ltb (length ys) (planned_count (state_of s) due es e)) (planned_count (state_of s) due es e) k TooShort p in
      subst Fits both.1 (record { plan = plans (state_of s) due es e; room = ltb-false (length ys) (planned_count (state_of s) due es e) both.0 })

  few : (k : ℕ) → Fits k → k ≤ length rows
  few k g = omega (arith, g.plan.few, length-map rows decode_entry)

  pub plan_fits : (k : ℕ) → plan_of due es (length ys) (state_of s) ≡ Ok k → (k ≤ length rows) × (k ≤ length ys)
  plan_fits k p = let g = fits k p in (few k g, g.room)

  pub drains_short : (x : ProducerError) → plan_of due es (length ys) (state_of s) ≡ Err x → Drains due s ys (Err x) s ys
  unfolding planned_count
  drains_short x p =
      let n : ℕ = planned_count (state_of s) due es e in
      let both = err_of (ltb (length ys) n) n TooShort x p in
      let gone : List OpSend = gone_of due (view s) in
      let short : ltb (length ys) (length gone) ≡ true = ap (ltb (length ys)) (sym (plans (state_of s) due es e).many) ∙ both.0 in
      subst (λ (y : ProducerError). Drains due s ys (Err y) s ys) both.1
      (meets due (length ys) s s (refused 9 []) (sym (drain_is due (length ys) (view s) ∙ ap (λ (b : Bool). pick b (view s, refused 9 []) (left_of due (view s), done (handed gone))) short)), refl, refl)

  pub drains_done : Full (state_of s) → (k : ℕ) → plan_of due es (length ys) (state_of s) ≡ Ok k → (zs : List OpSendRow)
      → zs ≡ table_after (take (length ys) (take k rows)) ys
      → (t : ProducerState) → state_of t ≡ drained_state due es k (state_of s) → Drains due s ys (Ok k) t zs
  drains_done f k p zs z t left =
      let g = fits k p in
      let gone : List OpSend = gone_of due (view s) in
      let room : ltb (length ys) (length gone) ≡ false = le-ltb (length ys) (length gone) (omega (arith, g.plan.many, g.room)) in
      let many : k ≡ length gone = g.plan.many in
      let start = start_is rows ys zs k (few k g) g.room z in
      let back : map decode_entry (take k zs) ≡ gone = ap (map decode_entry) start.0 ∙ map_take decode_entry k rows ∙ g.plan.gone in
      let c : k ≡ count_of due (view s) =
      g.plan.many ∙ ap length (sym (gone_is due (view s))) ∙ length-take-le (count_of due (view s)) (view s).pending (count_most due (view s)) in
      let told : Handed = record { count = k; entries = map decode_entry (take k zs) } in (
        meets due (length ys) s t (done told)
            ((λ j. (queue_of (left j), done told))
            ∙ (λ j. (left_view (state_of s) f due es k g.plan.gone c j, done (record { count = many j; entries = back j })))
            ∙ sym (drain_is due (length ys) (view s) ∙ ap (λ (b : Bool). pick b (view s, refused 9 []) (left_of due (view s), done (handed gone))) room)),
        start.1,
        tt,
      )
