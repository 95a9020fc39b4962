-- What was taken and what waits reads as the messages so far, and then come those of the open batch: each push of a send keeps it.
use Rattle.std.specs.Prelude.{Option}
use Prim.Native.Nat.{ℕ, zero, suc, ◌+◌, ◌≤◌}
use mathlib.Core.Path.{◌≡◌, refl, sym, ◌∙◌}
use mathlib.Core.Bool.{Bool, true, false}
use mathlib.Core.List.{List, [], ◌∷◌, ◌++◌, append_assoc, append-nil}
use native.Mathlib.Omega.{arith}
use lib.ListN.{length, length-append}
use borrow.Author.Tests.{eqb-true}
use Rattle.laws.specs.Choice.{pick}
use Rattle.types.specs.Empty.{empty_batch}
use Rattle.types.specs.declared.frame.BatchFrame.{BatchFrame}
use Rattle.types.specs.declared.frame.FrameRecord.{FrameRecord}
use Rattle.types.specs.declared.message.OutgoingMessage.{OutgoingMessage}
use Rattle.types.specs.declared.message.SingleMessage.{SingleMessage}
use Rattle.types.specs.declared.settings.ProducerSettings.{ProducerSettings}
use Rattle.types.specs.declared.types.ProducerHandle.{ProducerHandle}
use Rattle.wire.specs.Batch.{All, WithinBounds}
use Rattle.queue.specs.Queue.{Outgoing}
use Rattle.queue.specs.Batch.{is_empty, single_of, grown, batch_record, with_batch}
use Rattle.queue.specs.Send.{message_in}
use Rattle.queue.specs.Frame.{Frame, single_frame}
use Rattle.queue.specs.Chunks.{OfBatch}
use Rattle.queue.specs.Message.{Message, message_of}
use Rattle.queue.specs.Sizes.{held_size}
use Rattle.queue.proofs.Sound.{Sound, appended, joined_to}
use Rattle.queue.proofs.Reading.{ReadAs, read_more, read_single_lem, batch_messages, read_batch_frame, chunk_run, from_first, Cut, read_chunks}
use Rattle.queue.proofs.Groups.{Group, single, batch, chunks, record_in, held_in, frames_in, Kept, Agrees, frames_all, map_snoc, all_snoc, held_snoc, frames_snoc, frames_count, Stands}
use Rattle.types.specs.declared.txn.TxnId.{TxnId}

-- `all` are the frames taken and waiting, which only grow at their end
pub record Holds (store : List ℕ) (handle : ProducerHandle) (o : Outgoing) (took : List Frame) (accepted : List Message) (all : List Frame) : Type 0 where
  pub groups : List Group
  pub opened : List SingleMessage
  pub stands : Stands store o groups opened
  pub count : o.batch.len ≡ length opened
  pub kept : All (Kept store) opened
  pub seen : List Message
  pub frames : took ++ frames_all store handle groups ≡ all
  pub reads : ReadAs all seen
  pub same : seen ++ batch_messages store o.batch.txn_id opened ≡ accepted

-- frames more, each of a kind
pub record Grows (P : Frame → Type 0) (store : List ℕ) (handle : ProducerHandle) (o : Outgoing) (took : List Frame) (accepted : List Message) (all : List Frame)
    : Type 0 where
  pub more : List Frame
  pub each : All P more
  pub holds : Holds store handle o took accepted (all ++ more)

all_bounds : (store : List ℕ) (ms : List SingleMessage) → All (Kept store) ms → All WithinBounds ms
all_bounds store [] k = tt
all_bounds store (m ∷ ms) k = (k.0.bounds, all_bounds store ms k.1)

batch_snoc : (store : List ℕ) (txn : Option TxnId) (ms : List SingleMessage) (m : SingleMessage)
    → batch_messages store txn (ms ++ m ∷ []) ≡ batch_messages store txn ms ++ batch_messages store txn (m ∷ [])
batch_snoc store txn [] m = refl
batch_snoc store txn (x ∷ ms) m = rw (batch_snoc store txn ms m)

none_open : (ms : List SingleMessage) → length ms ≡ 0 → ms ≡ []
none_open [] e = refl
none_open (m ∷ ms) e = absurd (omega arith)

module _ (store : List ℕ) (handle : ProducerHandle) (o : Outgoing) (took : List Frame) (acc : List Message) (all : List Frame)
    (k : Holds store handle o took acc all) where
  pub empty_open : o.batch.len ≡ 0 → k.opened ≡ []
  empty_open e = none_open k.opened (sym k.count ∙ e)

  -- what was taken, and as many as wait
  pub all_count : Sound o → length all ≡ length took + o.waiting
  all_count w =
      let waits : length (frames_all store handle k.groups) ≡ o.waiting =
      rw (frames_count store handle k.groups k.stands.agrees, ← k.stands.frames, w.counted) in
      rw (← k.frames, length-append, waits)

  -- a group at the end
  stands_more : (g : Group) (n : ℕ) (ms : List SingleMessage) → Agrees store g → held_in g ++ ms ≡ k.opened
      → Stands store (appended (record_in g) n o) (k.groups ++ g ∷ []) ms
  stands_more g n ms agrees e =
      record {
        frames = rw (map_snoc record_in k.groups g, k.stands.frames);
        held = rw (held_snoc k.groups g, append_assoc, e) k.stands.held;
        agrees = all_snoc (Agrees store) k.groups g k.stands.agrees agrees;
      }

  frames_more : (g : Group) → took ++ frames_all store handle (k.groups ++ g ∷ []) ≡ all ++ frames_in store handle g
  frames_more g =
      rw (frames_snoc store handle k.groups g, ← append_assoc took (frames_all store handle k.groups) (frames_in store handle g), k.frames)

  -- the open batch becomes a frame
  pub flush_holds : (t : ProducerSettings) (time : ℕ)
      → Grows OfBatch store handle (with_batch empty_batch (appended (batch_record t time o.batch) 1 o)) took acc all
  flush_holds t time =
      let b = o.batch in
      let f : BatchFrame =
      record {
        num_messages = b.len;
        current_size_bytes = b.current_size_bytes;
        highest_sequence_id = b.highest_sequence_id;
        txn_id = b.txn_id;
      } in
      let r = batch_record t time b in
      let g = batch r f k.opened in
      let s = stands_more g 1 [] (k.count, k.kept) (append-nil k.opened) in
      let ms = batch_messages store b.txn_id k.opened in
      record {
        more = frames_in store handle g;
        each = (record { count = b.len; counted = refl; unchunked = refl }, tt);
        holds = record {
          groups = k.groups ++ g ∷ [];
          opened = [];
          stands = record { frames = s.frames; held = s.held; agrees = s.agrees };
          count = refl;
          kept = tt;
          seen = k.seen ++ ms;
          frames = frames_more g;
          reads = read_more all (frames_in store handle g) k.seen ms k.reads
              (read_batch_frame store handle r f k.opened k.count (all_bounds store k.opened k.kept));
          same = rw append-nil k.same;
        };
      }

  -- a message that goes alone or in chunks, when no batch is open
  push_holds : (g : Group) (n : ℕ) (m : Message) → o.batch.len ≡ 0 → Agrees store g → held_in g ≡ []
      → ReadAs (frames_in store handle g) (m ∷ []) → Holds store handle (appended (record_in g) n o) took (acc ++ m ∷ []) (all ++ frames_in store handle g)
  push_holds g n m e agrees none-held r =
      let z = empty_open e in
      let seen : k.seen ≡ acc = rw (z, append-nil) at k.same in
      record {
        groups = k.groups ++ g ∷ [];
        opened = k.opened;
        stands = stands_more g n k.opened agrees (rw none-held);
        count = k.count;
        kept = k.kept;
        seen = k.seen ++ m ∷ [];
        frames = frames_more g;
        reads = read_more all (frames_in store handle g) k.seen (m ∷ []) k.reads r;
        same = rw (z, append-nil, seen);
      }

  pub single_holds : (r : FrameRecord) → o.batch.len ≡ 0 → message_in (length store) r.message r.message.payload ≡ true
      → Holds store handle (appended (record_in (single r)) 1 o) took (acc ++ message_of store r.message ∷ []) (all ++ single_frame store handle r ∷ [])
  single_holds r e i = push_holds (single r) 1 (message_of store r.message) e i refl (read_single_lem store handle r)

  pub chunks_hold : (r : FrameRecord) (size count : ℕ) → o.batch.len ≡ 0 → message_in (length store) r.message r.message.payload ≡ true
      → Cut r.message.payload.len size count → 1 ≤ count
      → Holds store handle (appended (record_in (chunks r (from_first size count) 0)) count o) took (acc ++ message_of store r.message ∷ [])
      (all ++ chunk_run store handle r (from_first size count) count)
  chunks_hold r size zero e i cut any = absurd (omega arith)
  chunks_hold r size (suc n) e i cut any =
      push_holds (chunks r (from_first size (suc n)) n) (suc n) (message_of store r.message) e
      (record { inside = i; cut = cut; left = omega arith }) refl (read_chunks store handle r n size (suc n) cut refl)

  -- a message joins the open batch
  pub join_holds : (m : OutgoingMessage) (id now : ℕ) → o.batch.len ≤ held_size → Kept store (single_of m)
      → (is_empty o.batch ≡ false → o.batch.txn_id ≡ m.txn_id)
      → Holds store handle (joined_to (single_of m) (grown m id now o.batch) o) took (acc ++ message_of store m ∷ []) all
  join_holds m id now few kept agrees =
      record {
        groups = k.groups;
        opened = k.opened ++ single_of m ∷ [];
        stands = record { frames = k.stands.frames; held = rw (← append_assoc, k.stands.held); agrees = k.stands.agrees };
        count = rw length-append (omega (arith, k.count));
        kept = all_snoc (Kept store) k.opened (single_of m) k.kept kept;
        seen = k.seen;
        frames = k.frames;
        reads = k.reads;
        same = rw (last, ← append_assoc, k.same);
      }
    where
      by_first : (first : Bool) → is_empty o.batch ≡ first
          → batch_messages store (pick first m.txn_id o.batch.txn_id) (k.opened ++ single_of m ∷ [])
          ≡ batch_messages store o.batch.txn_id k.opened ++ message_of store m ∷ []
      by_first true e = rw (empty_open (eqb-true o.batch.len 0 e))
      by_first false e = rw (batch_snoc store o.batch.txn_id k.opened (single_of m), agrees e)

      last : batch_messages store (grown m id now o.batch).txn_id (k.opened ++ single_of m ∷ [])
          ≡ batch_messages store o.batch.txn_id k.opened ++ message_of store m ∷ []
      last = by_first (is_empty o.batch) refl
