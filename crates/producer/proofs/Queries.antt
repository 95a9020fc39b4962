-- Deadlines and counts of the scalars are those of the queue. Assumes nothing.
use Rattle.std.specs.Prelude.{None, Option, Some, ℕ}
use Rattle.std.proofs.Common.{◌≡◌, ℕ, ◌<◌, Bool, true, false, eqb, length, get_or, sym, refl, ap, ◌∙◌, arith, lit<, eq-eqb, ne_eqb}
use native.Mathlib.Decide.{dec_lt}
use Rattle.laws.specs.Choice.{pick}
use Rattle.laws.specs.Ring.{ring, slot}
use Rattle.laws.proofs.Choice.{pick_true, pick_false}
use Rattle.laws.proofs.Rings.{ring_pop, ring_none}
use Rattle.laws.proofs.Slots.{slot_below}
use Rattle.types.specs.declared.entry.OpSend.{OpSend}
use Rattle.types.specs.declared.entry.Publish.{Publish}
use Rattle.queue.specs.Ids.{delayed, elapsed, front_deadline, next_send_deadline, next_batch_deadline, batch_deadline_elapsed}
use Rattle.queue.specs.Sizes.{pending_size}
use Rattle.upkeep.specs.Deadline.{maybe_after, has_elapsed, unless_none}
use Rattle.plans.specs.Ids.{send_deadline_of, batch_deadline_of}
use Rattle.producer.specs.View.{queue_of, slots_of}
use Rattle.producer.specs.State.{State}
use Rattle.rules.specs.Blank.{no_entry}
use Rattle.producer.proofs.Entries.{entries_at}
use Rattle.producer.proofs.Full.{Full, slots}

num_after : (delay : Option ℕ) (time : ℕ) → (maybe_after delay time) ≡ delayed delay time
num_after None time = refl
num_after (Some d) time = refl

num_unless : (n : ℕ) (x : Option ℕ) → (unless_none n x) ≡ pick (eqb n 0) None x
num_unless n x = go (eqb n 0)
  where
    go : (b : Bool) → (pick b None x) ≡ pick b None x
    go true = refl
    go false = refl

pub batch_deadline_lem : (s : State) → (batch_deadline_of s.core) ≡ next_batch_deadline (queue_of s)
unfolding next_batch_deadline queue_of
batch_deadline_lem s =
    let c = s.core in
    let delay = c.settings.delays.batching_max_publish_delay in
    num_unless c.batch.len (maybe_after delay c.batch.first_added_at)
    ∙ ap (λ (o : Option ℕ). pick (eqb c.batch.len 0) None o) (num_after delay c.batch.first_added_at)

has_elapsed_lem : (now : ℕ) (d : Option ℕ) → has_elapsed now d ≡ elapsed now d
has_elapsed_lem now None = refl
has_elapsed_lem now (Some d) = refl

pub batch_elapsed_lem : (s : State) (now : ℕ) → has_elapsed now (batch_deadline_of s.core) ≡ batch_deadline_elapsed now (queue_of s)
unfolding batch_deadline_elapsed
batch_elapsed_lem s now = has_elapsed_lem now (batch_deadline_of s.core) ∙ ap (elapsed now) (batch_deadline_lem s)

-- the front entry's deadline
pub send_deadline_lem : (s : State) → Full s → (at : ℕ) → at ≡ slot pending_size s.core.rings.pending.head 0 → (d : Publish)
    → (send_deadline_of s.core (get_or s.pending at d).enqueued_at) ≡ next_send_deadline (queue_of s)
unfolding next_send_deadline queue_of
send_deadline_lem s f at q d =
    num_unless n (maybe_after timeout sent)
    ∙ ap (λ (o : Option ℕ). pick (eqb n 0) None o) (num_after timeout sent)
    ∙ go (dec_lt 0 n)
  where
    n : ℕ
    n = s.core.rings.pending.len

    h : ℕ
    h = s.core.rings.pending.head

    timeout : Option ℕ
    timeout = s.core.settings.delays.send_timeout

    sent : ℕ
    sent = (get_or s.pending at d).enqueued_at

    go : Dec (0 < n) → pick (eqb n 0) None (delayed timeout sent) ≡ front_deadline timeout (ring pending_size (slots_of s) h n)
    go (yes b) =
        let below : at < pending_size = omega (arith, q, slot_below pending_size h 0 (lit< tt)) in
        let li : at < length s.pending_ids = omega (arith, below, f.ids) in
        let lm : at < length s.pending_marks = omega (arith, below, f.marks) in
        let lp : at < length s.pending = omega (arith, below, f.pending) in
        let entry =
        ap (λ (k : ℕ). get_or (slots_of s) k no_entry) (sym q) ∙ entries_at s.pending_ids s.pending_marks s.pending at d no_entry li lm lp in
        pick_false None (delayed timeout sent) (ne_eqb n 0 (λ z. omega arith))
        ∙ sym
        (ap (front_deadline timeout) (ring_pop pending_size (lit< tt) (slots_of s) (slots s f) no_entry h n (omega arith))
        ∙ ap (λ (op : OpSend). delayed timeout op.publish.enqueued_at) entry)
    go (no b) =
        let z : n ≡ 0 = omega arith in
        pick_true None (delayed timeout sent) (eq-eqb n 0 z)
        ∙ sym (ap (front_deadline timeout) (ap (ring pending_size (slots_of s) h) z ∙ ring_none pending_size (slots_of s) h))
