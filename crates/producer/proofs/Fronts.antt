-- The loops of the replays: entries and their frames go to the front, the last first. Assumes nothing.
use Rattle.std.specs.Prelude.{None, Some}
use Rattle.std.proofs.Common.{◌≡◌, ℕ, ◌+◌, ◌^◌, ◌<◌, Bool, true, false, not, List, [], ◌∷◌, ◌++◌, map, length, sym, refl, ap, ◌∙◌, arith, lit<}
use Rattle.laws.specs.Choice.{pick}
use Rattle.laws.specs.Lists.{front, front_all}
use Rattle.laws.specs.Numbers.{add_sat}
use Rattle.laws.specs.Ring.{ring}
use Rattle.laws.proofs.Pushes.{ring_before}
use Rattle.types.specs.declared.entry.OpSend.{OpSend}
use Rattle.queue.specs.Queue.{Outgoing, Queue, with_out, with_pending}
use Rattle.queue.specs.Sizes.{outbound_size, held_size, pending_size}
use Rattle.queue.specs.Tables.{is_batched, frames_of, framed_of, frames_for, again, fronted, mark}
use Rattle.rules.specs.Rings.{place_before, longer_before}
use Rattle.types.specs.declared.frame.FrameRecord.{FrameRecord}
use Rattle.tables.specs.Again.{unless_batched}
use Rattle.plans.specs.Replay.{fronted_core, fronted_entry}
use Rattle.plans.specs.declared.delta.Pushed.{Pushed}
use Rattle.plans.specs.declared.state.Core.{Core}
use Rattle.producer.specs.View.{queue_of, slots_of}
use Rattle.producer.specs.Apply.{store_core, store_frame, store_entry}
use Rattle.producer.specs.State.{State}
use Rattle.producer.proofs.Entries.{entries_put}
use Rattle.producer.proofs.Stores.{stored_at}
use Rattle.producer.proofs.Full.{Full, slots, full_core, full_frame, full_entry}

-- ── frames ──

-- the frames of one entry before those that wait
abbrev fronted_one : OpSend → Outgoing → Outgoing
fronted_one op o =
    record {
      frames = pick (not (is_batched op.publish.replay)) (front outbound_size (again op) o.frames) o.frames;
      waiting = add_sat (frames_of op.publish.replay) o.waiting;
      held = o.held;
      batch = o.batch;
    }

fronted_next : (op : OpSend) (l : List OpSend) (o : Outgoing) → fronted_one op (fronted l o) ≡ fronted (op ∷ l) o
fronted_next op l o =
    let f : ℕ = frames_of op.publish.replay in
    let e : add_sat f (add_sat (frames_for l) o.waiting) ≡ add_sat (f + frames_for l) o.waiting = omega arith in
    λ j. record { frames = go (is_batched op.publish.replay) j; waiting = e j; held = o.held; batch = o.batch }
  where
    go : (b : Bool)
        → pick (not b) (front outbound_size (again op) (front_all outbound_size (map again (framed_of l)) o.frames)) (front_all outbound_size (map again (framed_of l)) o.frames)
        ≡ front_all outbound_size (map again (pick b (framed_of l) (op ∷ framed_of l))) o.frames
    go true = refl
    go false = refl

-- the last entry's go first
fronted_last : (l : List OpSend) (op : OpSend) (o : Outgoing) → fronted l (fronted_one op o) ≡ fronted (l ++ op ∷ []) o
fronted_last [] op o =
    let e : add_sat 0 (add_sat (frames_of op.publish.replay) o.waiting) ≡ add_sat (frames_of op.publish.replay) (add_sat 0 o.waiting) = omega arith in
    (λ j. record { frames = (fronted_one op o).frames; waiting = e j; held = o.held; batch = o.batch }) ∙ fronted_next op [] o
fronted_last (x ∷ l) op o = sym (fronted_next x l (fronted_one op o)) ∙ ap (fronted_one x) (fronted_last l op o) ∙ fronted_next x (l ++ op ∷ []) o

pub fronted_both : (l m : List OpSend) (o : Outgoing) → fronted l (fronted m o) ≡ fronted (l ++ m) o
fronted_both [] m o =
    let e : add_sat 0 (add_sat (frames_for m) o.waiting) ≡ add_sat (frames_for m) o.waiting = omega arith in
    λ j. record { frames = (fronted m o).frames; waiting = e j; held = o.held; batch = o.batch }
fronted_both (x ∷ l) m o = sym (fronted_next x l (fronted m o)) ∙ ap (fronted_one x) (fronted_both l m o) ∙ fronted_next x (l ++ m) o

pub fronted_none : (o : Outgoing) → o.waiting < 2 ^ 64 → o ≡ fronted [] o
fronted_none o h =
    let e : o.waiting ≡ add_sat 0 o.waiting = omega arith in
    λ j. record { frames = o.frames; waiting = e j; held = o.held; batch = o.batch }

-- the plan for one entry
abbrev pub fronted_for : OpSend → Core → Pushed FrameRecord
fronted_for op c = fronted_core (unless_batched op.publish.replay (again op)) (frames_of op.publish.replay) c

-- its store
abbrev pub fronted_state : Pushed FrameRecord → State → State
fronted_state p s = store_frame p.put (store_core p.core s)

waits : (op : OpSend) (c : Core) → (fronted_for op c).core.rings.waiting ≡ add_sat (frames_of op.publish.replay) c.rings.waiting
waits op c = go (is_batched op.publish.replay)
  where
    go : (b : Bool)
        → (fronted_core (pick b None (Some (again op))) (frames_of op.publish.replay) c).core.rings.waiting
        ≡ add_sat (frames_of op.publish.replay) c.rings.waiting
    go true = refl
    go false = refl

module _ (s : State) (f : Full s) where
  fronts : (op : OpSend) → queue_of (fronted_state (fronted_for op s.core) s) ≡ with_out (fronted_one op (queue_of s).out) (queue_of s)
  unfolding queue_of
  fronts op = go (is_batched op.publish.replay)
    where
      go : (b : Bool)
          → queue_of (fronted_state (fronted_core (pick b None (Some (again op))) (frames_of op.publish.replay) s.core) s)
          ≡ with_out (record {
            frames = pick (not b) (front outbound_size (again op) (queue_of s).out.frames) (queue_of s).out.frames;
            waiting = add_sat (frames_of op.publish.replay) (queue_of s).out.waiting;
            held = (queue_of s).out.held;
            batch = (queue_of s).out.batch;
          }) (queue_of s)
      go true = refl
      go false =
          let k = s.core.rings in
          let r = k.outbound in
          let e =
          ap (λ (l : List FrameRecord). ring outbound_size l (longer_before outbound_size r).head (longer_before outbound_size r).len)
          (stored_at (λ (y : FrameRecord). y) (place_before outbound_size r) (again op) s.outbound)
          ∙ ring_before outbound_size (lit< tt) s.outbound f.outbound r.head r.len (again op) in
          λ j.
          with_out (record {
            frames = e j;
            waiting = add_sat (frames_of op.publish.replay) k.waiting;
            held = (queue_of s).out.held;
            batch = (queue_of s).out.batch;
          }) (queue_of s)

-- with the frames of the rest at the front too, those of all are
module _ (s₀ : State) (ops : List OpSend) where
  pub record Fronting (s : State) (rest : List OpSend) : Type 0 where
    pub full : Full s
    pub fits : s.core.rings.waiting < 2 ^ 64
    pub left : with_out (fronted rest (queue_of s).out) (queue_of s) ≡ with_out (fronted ops (queue_of s₀).out) (queue_of s₀)

  pub fronting_start : (rest : List OpSend) → Full s₀ → s₀.core.rings.waiting < 2 ^ 64 → rest ≡ ops → Fronting s₀ rest
  fronting_start rest f h e = record { full = f; fits = h; left = ap (λ (l : List OpSend). with_out (fronted l (queue_of s₀).out) (queue_of s₀)) e }

  pub fronting_step : (s : State) (rest l : List OpSend) (op : OpSend) → Fronting s rest → rest ≡ l ++ op ∷ []
      → (p : Pushed FrameRecord) → p ≡ fronted_for op s.core → Fronting (fronted_state p s) l
  fronting_step s rest l op g r p e =
      record {
        full = full_frame (store_core p.core s) (full_core s g.full p.core) p.put;
        fits = omega (arith, ap (λ (q : Pushed FrameRecord). q.core.rings.waiting) e ∙ waits op s.core);
        left =
            ap (λ (q : Queue). with_out (fronted l q.out) q) (ap (λ (q : Pushed FrameRecord). queue_of (fronted_state q s)) e ∙ fronts s g.full op)
            ∙ ap (λ (o : Outgoing). with_out o (queue_of s)) (fronted_last l op (queue_of s).out)
            ∙ ap (λ (m : List OpSend). with_out (fronted m (queue_of s).out) (queue_of s)) (sym r)
            ∙ g.left;
      }

  pub fronting_end : (s : State) (rest : List OpSend) → Fronting s rest → length rest ≡ 0
      → queue_of s ≡ with_out (fronted ops (queue_of s₀).out) (queue_of s₀)
  unfolding queue_of
  fronting_end s [] g z = ap (λ (o : Outgoing). with_out o (queue_of s)) (fronted_none (queue_of s).out g.fits) ∙ g.left
  fronting_end s (x ∷ l) g z = absurd (omega arith)

-- ── entries ──

-- the last entry goes first
front_last : (l : List OpSend) (op : OpSend) (p : List OpSend) → front_all pending_size (map mark l) (front pending_size (mark op) p) ≡ front_all pending_size (map mark (l ++ op ∷ [])) p
front_last [] op p = refl
front_last (x ∷ l) op p = ap (front pending_size (mark x)) (front_last l op p)

abbrev pub entered : Pushed OpSend → State → State
entered a s = store_entry a.put (store_core a.core s)

module _ (s : State) (f : Full s) where
  enters : (op : OpSend) → queue_of (entered (fronted_entry op s.core) s) ≡ with_pending (front pending_size (mark op) (queue_of s).pending) (queue_of s)
  unfolding queue_of
  enters op =
      let c = s.core in
      let k = c.rings in
      let p = longer_before pending_size k.pending in
      let e =
      ap (λ (l : List OpSend). ring pending_size l p.head p.len)
      (entries_put (place_before pending_size k.pending) s.pending_ids s.pending_marks s.pending (mark op) refl)
      ∙ ring_before pending_size (lit< tt) (slots_of s) (slots s f) k.pending.head k.pending.len (mark op) in
      λ j.
      record {
        handle = c.handle;
        settings = c.settings;
        ids = c.ids;
        counters = c.counters;
        pending = e j;
        out = record {
          frames = ring outbound_size s.outbound k.outbound.head k.outbound.len;
          waiting = k.waiting;
          held = ring held_size s.held k.held.head k.held.len;
          batch = c.batch;
        };
      }

-- with the rest at the front too, all are
module _ (s₀ : State) (ops : List OpSend) where
  pub record Entering (s : State) (rest : List OpSend) : Type 0 where
    pub full : Full s
    pub left : with_pending (front_all pending_size (map mark rest) (queue_of s).pending) (queue_of s) ≡ with_pending (front_all pending_size (map mark ops) (queue_of s₀).pending) (queue_of s₀)

  pub entering_start : (rest : List OpSend) → Full s₀ → rest ≡ ops → Entering s₀ rest
  entering_start rest f e =
      record { full = f; left = ap (λ (l : List OpSend). with_pending (front_all pending_size (map mark l) (queue_of s₀).pending) (queue_of s₀)) e }

  pub entering_step : (s : State) (rest l : List OpSend) (op : OpSend) → Entering s rest → rest ≡ l ++ op ∷ []
      → (a : Pushed OpSend) → a ≡ fronted_entry op s.core → Entering (entered a s) l
  entering_step s rest l op g r a e =
      record {
        full = full_entry (store_core a.core s) (full_core s g.full a.core) a.put;
        left =
            ap (λ (q : Queue). with_pending (front_all pending_size (map mark l) q.pending) q)
            (ap (λ (q : Pushed OpSend). queue_of (entered q s)) e ∙ enters s g.full op)
            ∙ ap (λ (p : List OpSend). with_pending p (queue_of s)) (front_last l op (queue_of s).pending)
            ∙ ap (λ (m : List OpSend). with_pending (front_all pending_size (map mark m) (queue_of s).pending) (queue_of s)) (sym r)
            ∙ g.left;
      }

  pub entering_end : (s : State) (rest : List OpSend) → Entering s rest → length rest ≡ 0
      → queue_of s ≡ with_pending (front_all pending_size (map mark ops) (queue_of s₀).pending) (queue_of s₀)
  entering_end s [] g z = g.left
  entering_end s (x ∷ l) g z = absurd (omega arith)
