-- The snapshot: what is planned is what the definitions hand out, and the state after it stands for their queue. Assumes nothing.
use Rattle.std.specs.Prelude.{Err, Ok, Result}
use Rattle.std.proofs.Common.{◌≡◌, ℕ, ◌<◌, ◌≤◌, Bool, true, false, not, ◌&&◌, ◌||◌, ltb, leb, List, [], map, length, take, drop, sym, refl, ap, ◌∙◌, subst, arith, take_all, le-ltb, lt-ltb, le-leb, leb-true}
use native.Mathlib.Decide.{dec_lt}
use borrow.Author.Tests.{lt-leb}
use lib.ListN.{length-map}
use Rattle.laws.specs.Choice.{pick}
use Rattle.laws.proofs.Rings.{ring_none}
use Rattle.types.specs.declared.entry.OpSend.{OpSend}
use Rattle.types.specs.declared.error.ProducerError.{ProducerError}
use Rattle.types.specs.declared.error.ProducerError.TheVariants.{TooShort}
use Rattle.types.specs.declared.settings.Setting.TheVariants.{BrokerReady}
use Rattle.rows.specs.Entry.{decode_entry}
use Rattle.rows.specs.declared.entry.OpSendRow.{OpSendRow}
use Rattle.queue.specs.Queue.{Queue, Outcome, refused, done, empty_outgoing}
use Rattle.queue.specs.Settings.{changed}
use Rattle.queue.specs.Settle.{Handed, handed, table_after}
use Rattle.queue.specs.Sizes.{outbound_size, held_size, pending_size}
use Rattle.queue.specs.Tables.{batched_of, framed_of, failed, snapped, snapshot_pending_sends}
use Rattle.tables.specs.Scalars.{core_snapshot}
use Rattle.tables.specs.Picked.{kind_of, ListsRows}
use Rattle.tables.specs.declared.list.Listed.{Listed}
use Rattle.tables.specs.Snapshot.{snapshot_of}
use Rattle.tables.specs.declared.snapshot.Snapshot.{Snapshot}
use Rattle.producer.specs.Apply.{store_core}
use Rattle.producer.specs.Tables.{Snaps, told_first}
use Rattle.producer.specs.View.{queue_of, slots_of, view}
use Rattle.producer.specs.State.{State, state_of}
use Rattle.producer.specs.declared.state.ProducerState.{ProducerState}
use Rattle.producer.proofs.Drains.{start_is}
use Rattle.producer.proofs.Plans.{ok_then, err_else}
use Rattle.laws.proofs.Choice.{differ}

-- ── the call ──

short_is : (n room : ℕ) → ltb room n ≡ not (leb n room)
short_is n room = go (dec_lt room n)
  where
    go : Dec (room < n) → ltb room n ≡ not (leb n room)
    go (yes h) = lt-ltb room n h ∙ sym (ap not (lt-leb n room h))
    go (no h) = le-ltb room n (omega arith) ∙ sym (ap not (le-leb n room (omega arith)))

either : (a b : Bool) → (not a || not b) ≡ not (a && b)
either true b = refl
either false b = refl

left_view : (s : State) (n : ℕ) → n ≡ length (batched_of (queue_of s).pending) → queue_of (store_core (core_snapshot n s.core) s) ≡ snapped (queue_of s)
unfolding queue_of
left_view s n e =
    let c = s.core in
    let r = c.rings in
    λ j.
    record {
      handle = c.handle;
      settings = changed (BrokerReady false) c.settings;
      ids = c.ids;
      counters = failed (e j) c.counters;
      pending = ring_none pending_size (slots_of s) r.pending.head j;
      out = record {
        frames = ring_none outbound_size s.outbound r.outbound.head j;
        waiting = 0;
        held = ring_none held_size s.held r.held.head j;
        batch = empty_outgoing.batch;
      };
    }

-- the counts that are answered are the planned ones
pub counted : (s : ProducerState) (ds rs : List OpSendRow) (m k : Snapshot) (t : ProducerState) (zs us : List OpSendRow)
    → m.dropped ≡ k.dropped → m.replay ≡ k.replay → Snaps s ds rs (Ok k) t zs us → Snaps s ds rs (Ok m) t zs us
counted s ds rs m k t zs us d r =
    let e : m ≡ k = λ j. record { dropped = d j; replay = r j } in
    subst (λ (n : Snapshot). Snaps s ds rs (Ok n) t zs us) (sym e)

snapshot_is : (ds rs : ℕ) (q : Queue) (b : Bool)
    → (leb (length (batched_of q.pending)) ds && leb (length (framed_of q.pending)) rs) ≡ b
    → snapshot_pending_sends ds rs q ≡ pick b (snapped q, done (handed (batched_of q.pending), handed (framed_of q.pending))) (q, refused 9 [])
unfolding snapshot_pending_sends
snapshot_is ds rs q b e =
    let d = length (batched_of q.pending) in
    let r = length (framed_of q.pending) in
    ap (λ (t : Bool). pick t (q, refused 9 []) (snapped q, done (handed (batched_of q.pending), handed (framed_of q.pending))))
    ((λ j. short_is d ds j || short_is r rs j) ∙ either (leb d ds) (leb r rs) ∙ ap not e)
    ∙ turned b
  where
    turned : (t : Bool)
        → ◌≡◌ {A = Outcome (Handed × Handed)}
        (pick (not t) (q, refused 9 []) (snapped q, done (handed (batched_of q.pending), handed (framed_of q.pending))))
        (pick t (snapped q, done (handed (batched_of q.pending), handed (framed_of q.pending))) (q, refused 9 []))
    turned true = refl
    turned false = refl

-- a table whose start was written with all rows of a list
back : (l : List OpSend) (rows ys zs : List OpSendRow) → map decode_entry rows ≡ l → length l ≤ length ys
    → zs ≡ table_after (take (length ys) rows) ys → (map decode_entry (take (length l) zs) ≡ l) × (drop (length l) zs ≡ drop (length l) ys)
back l rows ys zs e h z =
    let n : length rows ≡ length l = sym (length-map rows decode_entry) ∙ ap length e in
    let whole : take (length l) rows ≡ rows = take_all (length l) rows (omega (arith, n)) in
    let start = start_is rows ys zs (length l) (omega (arith, n)) h (z ∙ ap (λ (r : List OpSendRow). table_after (take (length ys) r) ys) (sym whole)) in
    (ap (map decode_entry) (start.0 ∙ whole) ∙ e, start.1)

module _ (s : ProducerState) (ds rs : List OpSendRow) where
  d : List OpSend
  d = batched_of (view s).pending

  f : List OpSend
  f = framed_of (view s).pending

  abbrev Fits : Bool
  Fits = leb (length d) (length ds) && leb (length f) (length rs)

  abbrev counts : Snapshot
  counts = record { dropped = length d; replay = length f }

  abbrev pub Planned : Result Snapshot ProducerError
  Planned = snapshot_of (length (batched_of (view s).pending)) (length (framed_of (view s).pending)) (length ds) (length rs)

  -- the counts of the two lists are those that are planned with
  pub planned_by : (x y : Listed OpSendRow pending_size) → ListsRows (kind_of true (view s).pending) x → ListsRows (kind_of false (view s).pending) y
      → Planned ≡ snapshot_of x.len y.len (length ds) (length rs)
  planned_by x y p q = sym (λ j. snapshot_of (p.many j) (q.many j) (length ds) (length rs))

  both_leb : (a b : Bool) → (a && b) ≡ true → (a ≡ true) × (b ≡ true)
  both_leb true true e = (refl, refl)
  both_leb true false e = differ (cc)
  both_leb false b e = differ (cc)

  -- a plan that goes through
  record Goes (k : Snapshot) : Type 0 where
    fits : Fits ≡ true
    is : counts ≡ k

  goes : (k : Snapshot) → Planned ≡ Ok k → Goes k
  unfolding d f
  goes k p = let both = ok_then Fits counts k TooShort p in record { fits = both.0; is = both.1 }

  pub snaps_short : (x : ProducerError) → Planned ≡ Err x → Snaps s ds rs (Err x) s ds rs
  unfolding d f
  snaps_short x p =
      let both = err_else Fits counts TooShort x p in
      subst (λ (y : ProducerError). Snaps s ds rs (Err y) s ds rs) both.1
      (sym (snapshot_is (length ds) (length rs) (view s) false both.0), refl, refl, refl)

  pub snaps_done : (k : Snapshot) → Planned ≡ Ok k → (x y zs us : List OpSendRow)
      → map decode_entry x ≡ batched_of (view s).pending → map decode_entry y ≡ framed_of (view s).pending
      → zs ≡ table_after (take (length ds) x) ds → us ≡ table_after (take (length rs) y) rs
      → (t : ProducerState) → state_of t ≡ store_core (core_snapshot k.dropped (state_of s).core) (state_of s) → Snaps s ds rs (Ok k) t zs us
  unfolding d f
  snaps_done k p x y zs us dx fy z u t left =
      let g = goes k p in
      let both = both_leb (leb (length d) (length ds)) (leb (length f) (length rs)) g.fits in
      let bd = back d x ds zs dx (leb-true (length d) (length ds) both.0) z in
      let bf = back f y rs us fy (leb-true (length f) (length rs) both.1) u in
      let left_d = left ∙ ap (λ (n : Snapshot). store_core (core_snapshot n.dropped (state_of s).core) (state_of s)) (sym g.is) in
      let told : Handed × Handed = (told_first (length d) zs, told_first (length f) us) in
      subst (λ (n : Snapshot). Snaps s ds rs (Ok n) t zs us) g.is (
        (λ j. (queue_of (left_d j), done told))
            ∙ (λ j. (left_view (state_of s) (length d) refl j, done (record { count = length d; entries = bd.0 j }, record { count = length f; entries = bf.0 j })))
            ∙ sym (snapshot_is (length ds) (length rs) (view s) true g.fits),
        bd.1,
        bf.1,
        tt,
      )
