-- What one push of a plan does to the queue that a state stands for: it is the push onto the list, the full ring included. Assumes nothing.
use Rattle.std.proofs.Common.{◌≡◌, ℕ, ◌<◌, min, List, length, refl, ap, ◌∙◌, lit<}
use Rattle.laws.specs.Lists.{onto}
use Rattle.laws.specs.Numbers.{add_sat}
use Rattle.laws.specs.Ring.{ring}
use Rattle.laws.proofs.Pushes.{ring_onto}
use Rattle.laws.proofs.Rings.{length_ring}
use Rattle.types.specs.declared.entry.OpSend.{OpSend}
use Rattle.types.specs.declared.entry.Publish.{Publish}
use Rattle.types.specs.declared.frame.FrameRecord.{FrameRecord}
use Rattle.types.specs.declared.message.SingleMessage.{SingleMessage}
use Rattle.queue.specs.Queue.{Outgoing, with_out}
use Rattle.queue.specs.Batch.{push}
use Rattle.queue.specs.Ids.{assigned}
use Rattle.queue.specs.Send.{accept}
use Rattle.queue.specs.Sizes.{outbound_size, held_size, pending_size}
use Rattle.rules.specs.Rings.{place_behind, longer_behind}
use Rattle.plans.specs.Delta.{pushed, accepted, held}
use Rattle.producer.specs.View.{queue_of, entry_of, entries}
use Rattle.producer.specs.Apply.{store_core, store_frame, store_entry, store_held}
use Rattle.producer.specs.State.{State}
use Rattle.producer.proofs.Entries.{entries_put, length_entries}
use Rattle.producer.proofs.Stores.{stored_at}
use Rattle.producer.proofs.Full.{Full}

abbrev p1024 : 0 < outbound_size
p1024 = lit< tt

abbrev p512 : 0 < held_size
p512 = lit< tt

abbrev p256 : 0 < pending_size
p256 = lit< tt

-- a message more among those held
abbrev pub holding : SingleMessage → Outgoing → Outgoing
holding m o = record { frames = o.frames; waiting = o.waiting; held = onto held_size o.held m; batch = o.batch }

module _ (s : State) (f : Full s) where
  all : List OpSend
  all = entries s.pending_ids s.pending_marks s.pending

  all_length : length all ≡ pending_size
  unfolding all
  all_length = length_entries pending_size s.pending_ids s.pending_marks s.pending f.ids f.marks f.pending

  pub pushes : (r : FrameRecord) (n : ℕ)
      → queue_of (store_frame (pushed r n s.core).put (store_core (pushed r n s.core).core s)) ≡ with_out (push r n (queue_of s).out) (queue_of s)
  unfolding queue_of
  pushes r n =
      let c = s.core in
      let k = c.rings in
      let e =
      ap (λ (l : List FrameRecord). ring outbound_size l k.outbound.head (longer_behind outbound_size k.outbound).len)
      (stored_at (λ (x : FrameRecord). x) (place_behind outbound_size k.outbound) r s.outbound)
      ∙ ring_onto outbound_size p1024 s.outbound f.outbound k.outbound.head k.outbound.len r in
      λ j.
      record {
        handle = c.handle;
        settings = c.settings;
        ids = c.ids;
        counters = c.counters;
        pending = ring pending_size (entries s.pending_ids s.pending_marks s.pending) k.pending.head k.pending.len;
        out = record {
          frames = e j;
          waiting = add_sat k.waiting n;
          held = ring held_size s.held k.held.head k.held.len;
          batch = c.batch;
        };
      }

  pub holds : (m : SingleMessage)
      → queue_of (store_held (held m s.core).put (store_core (held m s.core).core s)) ≡ with_out (holding m (queue_of s).out) (queue_of s)
  unfolding queue_of
  holds m =
      let c = s.core in
      let k = c.rings in
      let e =
      ap (λ (l : List SingleMessage). ring held_size l k.held.head (longer_behind held_size k.held).len)
      (stored_at (λ (x : SingleMessage). x) (place_behind held_size k.held) m s.held)
      ∙ ring_onto held_size p512 s.held f.held k.held.head k.held.len m in
      λ j.
      record {
        handle = c.handle;
        settings = c.settings;
        ids = c.ids;
        counters = c.counters;
        pending = ring pending_size (entries s.pending_ids s.pending_marks s.pending) k.pending.head k.pending.len;
        out = record {
          frames = ring outbound_size s.outbound k.outbound.head k.outbound.len;
          waiting = k.waiting;
          held = e j;
          batch = c.batch;
        };
      }

  pub accepts : (p : Publish)
      → queue_of (store_entry (accepted p s.core).put (store_core (accepted p s.core).core s))
      ≡ accept (entry_of s.core.ids.next_sequence_id 1 p) (queue_of s)
  unfolding queue_of all
  accepts p =
      let c = s.core in
      let k = c.rings in
      let place = place_behind pending_size k.pending in
      let id = c.ids.next_sequence_id in
      let e =
      ap (λ (l : List OpSend). ring pending_size l k.pending.head (longer_behind pending_size k.pending).len)
      (entries_put place s.pending_ids s.pending_marks s.pending (entry_of id 1 p) refl)
      ∙ ring_onto pending_size p256 all all_length k.pending.head k.pending.len (entry_of id 1 p) in
      λ j.
      record {
        handle = c.handle;
        settings = c.settings;
        ids = assigned c.ids;
        counters = c.counters;
        pending = e j;
        out = record {
          frames = ring outbound_size s.outbound k.outbound.head k.outbound.len;
          waiting = k.waiting;
          held = ring held_size s.held k.held.head k.held.len;
          batch = c.batch;
        };
      }

  -- how many the definition sees
  pub held_length : length (queue_of s).out.held ≡ min s.core.rings.held.len held_size
  unfolding queue_of
  held_length = length_ring held_size p512 s.held f.held s.core.rings.held.head s.core.rings.held.len

  pub pending_length : length (queue_of s).pending ≡ min s.core.rings.pending.len pending_size
  unfolding queue_of all
  pending_length = length_ring pending_size p256 all all_length s.core.rings.pending.head s.core.rings.pending.len
