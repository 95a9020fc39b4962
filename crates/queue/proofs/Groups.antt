-- What a queue's waiting records stand for: each with the messages that it holds and the frames that it yields. A take moves one frame out.
use Prim.Native.Nat.{ℕ, zero, suc, ◌+◌, ◌-◌, ◌*◌, ◌≤◌}
use mathlib.Core.Path.{◌≡◌, refl, sym, ◌∙◌}
use mathlib.Core.Bool.{Bool, true, false, ◌&&◌}
use mathlib.Core.List.{List, [], ◌∷◌, ◌++◌, append_assoc, append-nil, map}
use native.Mathlib.Omega.{arith}
use lib.ListN.{length, take, drop, length-append}
use lib.Seq.{take-append_seam, drop-append_seam}
use lib.Dec.{ltb, eqb}
use borrow.Author.Tests.{leb-true, le-leb, lt-ltb, le-ltb}
use Rattle.laws.specs.Choice.{pick}
use Rattle.types.specs.Values.{part_in, maybe_in}
use Rattle.types.specs.declared.frame.BatchFrame.{BatchFrame}
use Rattle.types.specs.declared.frame.ChunkedMessageContext.{ChunkedMessageContext}
use Rattle.types.specs.declared.frame.FrameKind.TheVariants as kind
use Rattle.types.specs.declared.frame.FrameRecord.{FrameRecord}
use Rattle.types.specs.declared.message.OutgoingMessage.{OutgoingMessage}
use Rattle.types.specs.declared.message.Part.{Part}
use Rattle.types.specs.declared.message.SingleMessage.{SingleMessage}
use Rattle.types.specs.declared.types.ProducerHandle.{ProducerHandle}
use Rattle.wire.specs.Batch.{All, WithinBounds}
use Rattle.queue.specs.Queue.{Queue, Outgoing, done, refuse, with_out}
use Rattle.queue.specs.Send.{message_in}
use Rattle.queue.specs.Frame.{Frame, single_frame, batch_frame, chunk_frame, chunk_part, single_in, all_in, borne_in}
use Rattle.queue.specs.Take.{with_kind, next_chunk, after_take, next_outbound_frame}
use Rattle.queue.specs.Reachable.{left, left_all}
use Rattle.laws.proofs.Choice.{false_true}
use Rattle.queue.proofs.Reading.{chunk_run, run_length, Cut}

-- a single message; a batch frame with its messages; n + 1 chunks that wait
pub data Group : Type 0 where
  single : FrameRecord → Group
  batch : FrameRecord → BatchFrame → List SingleMessage → Group
  chunks : FrameRecord → ChunkedMessageContext → ℕ → Group

abbrev pub record_in : Group → FrameRecord
record_in (single r) = with_kind kind.Single r
record_in (batch r b ms) = with_kind (kind.Batch b) r
record_in (chunks r c n) = with_kind (kind.Chunked c) r

abbrev pub held_in : Group → List SingleMessage
held_in (single r) = []
held_in (batch r b ms) = ms
held_in (chunks r c n) = []

abbrev pub frames_in : List ℕ → ProducerHandle → Group → List Frame
frames_in store handle (single r) = single_frame store handle r ∷ []
frames_in store handle (batch r b ms) = batch_frame store handle r b ms ∷ []
frames_in store handle (chunks r c n) = chunk_run store handle r c (suc n)

-- a held message: its parts lie in the store, and it can be read back
pub record Kept (store : List ℕ) (m : SingleMessage) : Type 0 where
  pub inside : single_in (length store) m ≡ true
  pub bounds : WithinBounds m

pub record Waits (store : List ℕ) (r : FrameRecord) (c : ChunkedMessageContext) (n : ℕ) : Type 0 where
  pub inside : message_in (length store) r.message r.message.payload ≡ true
  pub cut : Cut r.message.payload.len c.max_chunk_size c.total_chunks
  pub left : c.next_chunk + suc n ≡ c.total_chunks

-- parts within the store, counts that agree
abbrev pub Agrees : List ℕ → Group → Type 0
Agrees store (single r) = message_in (length store) r.message r.message.payload ≡ true
Agrees store (batch r b ms) = (b.num_messages ≡ length ms) × All (Kept store) ms
Agrees store (chunks r c n) = Waits store r c n

-- ── groups in a row ──

abbrev pub held_all : List Group → List SingleMessage
held_all [] = []
held_all (g ∷ gs) = held_in g ++ held_all gs

abbrev pub frames_all : List ℕ → ProducerHandle → List Group → List Frame
frames_all store handle [] = []
frames_all store handle (g ∷ gs) = frames_in store handle g ++ frames_all store handle gs

pub map_snoc : {A B : Type 0} (f : A → B) (xs : List A) (x : A) → map f (xs ++ x ∷ []) ≡ map f xs ++ f x ∷ []
map_snoc f [] x = refl
map_snoc f (y ∷ xs) x = rw (map_snoc f xs x)

pub all_append : {A : Type 0} (P : A → Type 0) (xs ys : List A) → All P xs → All P ys → All P (xs ++ ys)
all_append P [] ys h k = k
all_append P (x ∷ xs) ys h k = (h.0, all_append P xs ys h.1 k)

pub all_snoc : {A : Type 0} (P : A → Type 0) (xs : List A) (x : A) → All P xs → P x → All P (xs ++ x ∷ [])
all_snoc P xs x h k = all_append P xs (x ∷ []) h (k, tt)

pub held_snoc : (gs : List Group) (g : Group) → held_all (gs ++ g ∷ []) ≡ held_all gs ++ held_in g
held_snoc [] g = append-nil (held_in g)
held_snoc (x ∷ gs) g = rw (held_snoc gs g) (sym (append_assoc (held_in x) (held_all gs) (held_in g)))

pub frames_snoc : (store : List ℕ) (handle : ProducerHandle) (gs : List Group) (g : Group)
    → frames_all store handle (gs ++ g ∷ []) ≡ frames_all store handle gs ++ frames_in store handle g
frames_snoc store handle [] g = append-nil (frames_in store handle g)
frames_snoc store handle (x ∷ gs) g =
    rw (frames_snoc store handle gs g) (sym (append_assoc (frames_in store handle x) (frames_all store handle gs) (frames_in store handle g)))

-- what goes out stands for groups, and for the messages of the open batch
pub record Stands (store : List ℕ) (o : Outgoing) (gs : List Group) (ms : List SingleMessage) : Type 0 where
  pub frames : o.frames ≡ map record_in gs
  pub held : o.held ≡ held_all gs ++ ms
  pub agrees : All (Agrees store) gs

-- they yield as many frames as wait
frames_left : (store : List ℕ) (handle : ProducerHandle) (g : Group) → Agrees store g → length (frames_in store handle g) ≡ left (record_in g).kind
frames_left store handle (single r) k = refl
frames_left store handle (batch r b ms) k = refl
frames_left store handle (chunks r c n) k = omega (arith, run_length store handle r c (suc n), k.left)

pub frames_count : (store : List ℕ) (handle : ProducerHandle) (gs : List Group) → All (Agrees store) gs
    → length (frames_all store handle gs) ≡ left_all (map record_in gs)
frames_count store handle [] k = refl
frames_count store handle (g ∷ gs) k = rw length-append (omega (arith, frames_left store handle g k.0, frames_count store handle gs k.1))

-- ── a take ──

all_in_lem : (store : List ℕ) (ms : List SingleMessage) → All (Kept store) ms → all_in (length store) ms ≡ true
all_in_lem store [] k = refl
all_in_lem store (m ∷ ms) k = rw (k.0.inside, all_in_lem store ms k.1)

-- what a send tests covers what a frame bears, of the payload or of a part of it
borne_in_lem : (n : ℕ) (m : OutgoingMessage) (p q : Part) → message_in n m p ≡ true → (part_in n p ≡ true → part_in n q ≡ true) → borne_in n m q ≡ true
borne_in_lem n m p q h f =
    go (part_in n p) (part_in n q) (maybe_in n m.partition_key) (maybe_in n m.ordering_key) (maybe_in n m.schema_version)
    (part_in n m.producer_name) (eqb m.producer_name.len 0) h f
  where
    last : (k o v x e : Bool) → (k && o && v && x) ≡ true → (k && o && v && pick e true x) ≡ true
    last true true true true true h = refl
    last true true true true false h = refl
    last true true true false e h = false_true h
    last true true false x e h = false_true h
    last true false v x e h = false_true h
    last false o v x e h = false_true h

    go : (a b k o v x e : Bool) → (a && k && o && v && x) ≡ true → (a ≡ true → b ≡ true) → (b && k && o && v && pick e true x) ≡ true
    go true b k o v x e h f = rw (f refl) (last k o v x e h)
    go false b k o v x e h f = false_true h

chunk_in : (store : List ℕ) (r : FrameRecord) (c : ChunkedMessageContext) (n : ℕ) → Waits store r c n
    → borne_in (length store) r.message (chunk_part r c) ≡ true
chunk_in store r c n k =
    let p = r.message.payload in
    let x = chunk_part r c in
    let below : c.next_chunk * c.max_chunk_size ≤ p.len = k.cut.within c.next_chunk (omega (arith, k.left)) in
    borne_in_lem (length store) r.message p x k.inside
    (λ h.
    let ends : p.start + p.len ≤ length store = leb-true (p.start + p.len) (length store) h in
    let fits : x.start + x.len ≤ length store = omega arith in
    le-leb (x.start + x.len) (length store) fits)

pub record Next (store : List ℕ) (q : Queue) (g : Group) (gs : List Group) (ms : List SingleMessage) : Type 0 where
  pub frame : Frame
  pub rest : Outgoing
  pub groups : List Group
  pub takes : (room : ℕ) → next_outbound_frame store room q ≡ pick (ltb room (length frame.payload)) (refuse 9 q) (with_out rest q, done frame)
  pub moved : frames_all store q.handle (g ∷ gs) ≡ frame ∷ frames_all store q.handle groups
  pub stands : Stands store rest groups ms
  pub batch : rest.batch ≡ q.out.batch
  pub fewer : rest.waiting ≡ q.out.waiting - 1

pub next : (store : List ℕ) (q : Queue) (g : Group) (gs : List Group) (ms : List SingleMessage) → Stands store q.out (g ∷ gs) ms → Next store q g gs ms
unfolding next_outbound_frame chunk_run
next store q (single r) gs ms k =
    record {
      frame = single_frame store q.handle r;
      rest = after_take (with_kind kind.Single r) (map record_in gs) q.out;
      groups = gs;
      takes = λ room. rw (k.frames, borne_in_lem (length store) r.message r.message.payload r.message.payload k.agrees.0 (λ h. h));
      moved = refl;
      stands = record { frames = refl; held = k.held; agrees = k.agrees.1 };
      batch = refl;
      fewer = refl;
    }
next store q (batch r b xs) gs ms k =
    let split : q.out.held ≡ xs ++ (held_all gs ++ ms) = k.held ∙ append_assoc xs (held_all gs) ms in
    let front : take b.num_messages q.out.held ≡ xs = rw (split, k.agrees.0.0) (take-append_seam xs (held_all gs ++ ms)) in
    let back : drop b.num_messages q.out.held ≡ held_all gs ++ ms = rw (split, k.agrees.0.0) (drop-append_seam xs (held_all gs ++ ms)) in
    record {
      frame = batch_frame store q.handle r b xs;
      rest = after_take (with_kind (kind.Batch b) r) (map record_in gs) q.out;
      groups = gs;
      takes = λ room. rw (k.frames, front, all_in_lem store xs k.agrees.0.1);
      moved = refl;
      stands = record { frames = refl; held = back; agrees = k.agrees.1 };
      batch = refl;
      fewer = refl;
    }
next store q (chunks r c zero) gs ms k =
    record {
      frame = chunk_frame store q.handle r c;
      rest = after_take (with_kind (kind.Chunked c) r) (map record_in gs) q.out;
      groups = gs;
      takes = λ room. rw (k.frames, chunk_in store r c zero k.agrees.0);
      moved = refl;
      stands = record {
        frames = rw (le-ltb (c.next_chunk + 1) c.total_chunks (omega (arith, k.agrees.0.left)));
        held = k.held;
        agrees = k.agrees.1;
      };
      batch = refl;
      fewer = refl;
    }
next store q (chunks r c (suc n)) gs ms k =
    let w = k.agrees.0 in
    record {
      frame = chunk_frame store q.handle r c;
      rest = after_take (with_kind (kind.Chunked c) r) (map record_in gs) q.out;
      groups = chunks r (next_chunk c) n ∷ gs;
      takes = λ room. rw (k.frames, chunk_in store r c (suc n) w);
      moved = refl;
      stands = record {
        frames = rw (lt-ltb (c.next_chunk + 1) c.total_chunks (omega (arith, w.left)));
        held = k.held;
        agrees = (record { inside = w.inside; cut = w.cut; left = omega (arith, w.left) }, k.agrees.1);
      };
      batch = refl;
      fewer = refl;
    }

pub none_left : (store : List ℕ) (room : ℕ) (q : Queue) → q.out.frames ≡ [] → next_outbound_frame store room q ≡ refuse 10 q
unfolding next_outbound_frame
none_left store room q e = rw e
