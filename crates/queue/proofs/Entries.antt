-- The pending entries stay sound: no call but a send or a replay makes them more, and each is one that 12 takes.
use Prim.Native.Nat.{ℕ, zero, suc, ◌≤◌, ◌<◌}
use mathlib.Core.Path.{◌≡◌, refl, sym}
use mathlib.Core.Bool.{true}
use mathlib.Core.List.{List, [], ◌∷◌, ◌++◌, map}
use native.Mathlib.Omega.{arith}
use lib.ListN.{length, drop, length-append}
use lib.Dec.{eqb}
use borrow.Author.Tests.{eqb-true}
use Rattle.laws.specs.Choice.{pick}
use Rattle.types.specs.declared.entry.OpSend.{OpSend}
use Rattle.types.specs.declared.entry.Replay.{Replay}
use Rattle.types.specs.declared.entry.Replay.TheVariants as replay
use Rattle.types.specs.declared.frame.FrameRecord.{FrameRecord}
use Rattle.wire.specs.Batch.{All}
use Rattle.queue.specs.Send.{total_chunks}
use Rattle.queue.specs.Settle.{bears, unmark, without_id, settled, unmark_all}
use Rattle.queue.specs.Sizes.{pending_size}
use Rattle.queue.specs.Tables.{is_batched, framed_of, again, frames_for, has_chunk_count, well_formed, all_well_formed, mark, borne, unborne}
use Rattle.queue.specs.Reachable.{left_all}
use Rattle.laws.proofs.Choice.{pick_ind, and_left, and_right}
use Rattle.queue.proofs.Sound.{EachWaits, held_by}

pub some_chunk : (len size : ℕ) → 1 ≤ total_chunks len size
some_chunk len size = pick_ind (λ n. 1 ≤ n) (eqb size 0) _ _ (λ e. omega arith) (λ e. omega arith)

-- what a replay would push is a frame at least
abbrev pub SomeFrame : Replay → Type 0
SomeFrame replay.Batched = Unit {0}
SomeFrame replay.Single = Unit {0}
SomeFrame (replay.Chunked count size) = 1 ≤ count

-- 12 takes the entry
abbrev pub Formed : OpSend → Type 0
Formed op = well_formed op ≡ true

abbrev pub EachFormed : List OpSend → Type 0
EachFormed l = All Formed l

pub record Entries (l : List OpSend) : Type 0 where
  pub few : length l ≤ pending_size
  pub formed : EachFormed l

pub formed_append : (a b : List OpSend) → EachFormed a → EachFormed b → EachFormed (a ++ b)
formed_append [] b x y = y
formed_append (op ∷ a) b x y = (x.0, formed_append a b x.1 y)

-- ── entries that go, and marks that change ──

-- what hangs on the published part of an entry alone
abbrev pub ByPublish : (OpSend → Type 0) → Type 0
ByPublish P = (op p : OpSend) → op.publish ≡ p.publish → P op → P p

-- no more entries, and what holds of each still does
record Fewer (P : OpSend → Type 0) (a b : List OpSend) : Type 0 where
  fewer : length a ≤ length b
  kept : All P b → All P a

module _ {P : OpSend → Type 0} (by : ByPublish P) where
  same : (l : List OpSend) → Fewer P l l
  same l = record { fewer = omega arith; kept = λ h. h }

  both : {a b c : List OpSend} → Fewer P a b → Fewer P b c → Fewer P a c
  both x y = record { fewer = omega (arith, x.fewer, y.fewer); kept = λ h. x.kept (y.kept h) }

  map_fewer : (f : OpSend → OpSend) → ((op : OpSend) → (f op).publish ≡ op.publish) → (l : List OpSend) → Fewer P (map f l) l
  map_fewer f e [] = same []
  map_fewer f e (op ∷ l) =
      let d = map_fewer f e l in
      record { fewer = omega (arith, d.fewer); kept = λ h. (by op (f op) (sym (e op)) h.0, d.kept h.1) }

  drop_fewer : (n : ℕ) (l : List OpSend) → Fewer P (drop n l) l
  drop_fewer zero l = same l
  drop_fewer (suc n) [] = same []
  drop_fewer (suc n) (op ∷ l) = let d = drop_fewer n l in record { fewer = omega (arith, d.fewer); kept = λ h. d.kept h.1 }

  without_fewer : (id : ℕ) (l : List OpSend) → Fewer P (without_id id l) l
  without_fewer id [] = same []
  without_fewer id (op ∷ l) =
      let d = without_fewer id l in
      pick_ind (λ x. Fewer P x (op ∷ l)) (bears id op) l (op ∷ without_id id l)
      (λ e. record { fewer = omega arith; kept = λ h. h.1 })
      (λ e. record { fewer = omega (arith, d.fewer); kept = λ h. (h.0, d.kept h.1) })

  unmark_fewer : (gone l : List OpSend) → Fewer P (unmark_all gone l) l
  unmark_fewer [] l = same l
  unmark_fewer (op ∷ gone) l =
      let id = op.sequence_id.0 in
      both (unmark_fewer gone (map (unmark id) l)) (map_fewer (unmark id) (λ x. refl) l)

  settled_fewer : (id : ℕ) (l : List OpSend) → Fewer P (settled id l) l
  settled_fewer id l = both (map_fewer (unmark id) (λ x. refl) (without_id id l)) (without_fewer id l)

  timed_fewer : (gone : List OpSend) (n : ℕ) (l : List OpSend) → Fewer P (unmark_all gone (drop n l)) l
  timed_fewer gone n l = both (unmark_fewer gone (drop n l)) (drop_fewer n l)

  pub settled_all : (id : ℕ) (l : List OpSend) → All P l → All P (settled id l)
  settled_all id l = (settled_fewer id l).kept

  pub timed_all : (gone : List OpSend) (n : ℕ) (l : List OpSend) → All P l → All P (unmark_all gone (drop n l))
  timed_all gone n l = (timed_fewer gone n l).kept

  pub marked_all : (l : List OpSend) → All P l → All P (map mark l)
  marked_all l = (map_fewer mark (λ x. refl) l).kept

-- 12 does not look at the mark
pub same_formed : ByPublish Formed
same_formed op p e h = rw e at h

fewer_entries : {a b : List OpSend} → Fewer Formed a b → Entries b → Entries a
fewer_entries d k = record { few = omega (arith, d.fewer, k.few); formed = d.kept k.formed }

pub settled_entries : (id : ℕ) (l : List OpSend) → Entries l → Entries (settled id l)
settled_entries id l = fewer_entries (settled_fewer same_formed id l)

pub timed_entries : (gone : List OpSend) (n : ℕ) (l : List OpSend) → Entries l → Entries (unmark_all gone (drop n l))
timed_entries gone n l = fewer_entries (timed_fewer same_formed gone n l)

-- ── an entry more ──

pub one_more : (l : List OpSend) (op : OpSend) → Entries l → length l < pending_size → Formed op → Entries (l ++ op ∷ [])
one_more l op k room formed =
    record { few = rw length-append (omega arith); formed = formed_append l (op ∷ []) k.formed (formed, tt) }

-- ── what a replay pushes ──

some_frame : (len : ℕ) (r : Replay) → has_chunk_count len r ≡ true → SomeFrame r
some_frame len replay.Batched h = tt
some_frame len replay.Single h = tt
some_frame len (replay.Chunked count size) h = rw (eqb-true count (total_chunks len size) h) (some_chunk len size)

pub all_well_formed_lem : (l : List OpSend) → all_well_formed l ≡ true → EachFormed l
all_well_formed_lem [] h = tt
all_well_formed_lem (op ∷ l) h =
    let a = well_formed op in
    (and_left a (all_well_formed l) h, all_well_formed_lem l (and_right a (all_well_formed l) h))

pub formed_all : (l : List OpSend) → EachFormed l → all_well_formed l ≡ true
formed_all [] h = refl
formed_all (op ∷ l) h = rw (h.0, formed_all l h.1)

pub unborne_all : (P : OpSend → Type 0) (rs : List FrameRecord) (l : List OpSend) → All P l → All P (unborne rs l)
unborne_all P rs [] h = tt
unborne_all P rs (op ∷ l) h =
    pick_ind (All P) (borne op.sequence_id.0 rs) (unborne rs l) (op ∷ unborne rs l)
    (λ e. unborne_all P rs l h.1)
    (λ e. (h.0, unborne_all P rs l h.1))

pub framed_all : (P : OpSend → Type 0) (l : List OpSend) → All P l → All P (framed_of l)
framed_all P [] h = tt
framed_all P (op ∷ l) h =
    pick_ind (All P) (is_batched op.publish.replay) (framed_of l) (op ∷ framed_of l)
    (λ e. framed_all P l h.1)
    (λ e. (h.0, framed_all P l h.1))

-- the records of entries that are pushed again
pub record Again (l : List OpSend) (rs : List FrameRecord) : Type 0 where
  pub counted : left_all rs ≡ frames_for l
  pub each : EachWaits rs
  pub held : held_by rs ≡ 0

pub again_all : (l : List OpSend) → EachFormed l → Again l (map again (framed_of l))
again_all [] h = record { counted = refl; each = tt; held = refl }
again_all (op ∷ l) h = go op.publish.replay refl (some_frame op.publish.message.payload.len op.publish.replay (and_left _ _ h.0)) (again_all l h.1)
  where
    go : (r : Replay) → op.publish.replay ≡ r → SomeFrame r → Again l (map again (framed_of l))
        → Again (op ∷ l) (map again (pick (is_batched op.publish.replay) (framed_of l) (op ∷ framed_of l)))
    go replay.Batched e s k = rw e (record { counted = omega (arith, k.counted); each = k.each; held = k.held })
    go replay.Single e s k =
        rw e (record { counted = omega (arith, k.counted); each = (omega arith, k.each); held = omega (arith, k.held) })
    go (replay.Chunked count size) e s k =
        rw e (record { counted = omega (arith, k.counted); each = (omega arith, k.each); held = omega (arith, k.held) })
