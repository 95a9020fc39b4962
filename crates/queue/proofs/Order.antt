-- The order rule: by induction on the calls, and then on the takes that are left.
use Rattle.std.specs.Prelude.{Some}
use Prim.Native.Nat.{ℕ, ◌+◌}
use mathlib.Core.Path.{◌≡◌, refl, sym, ◌∙◌}
use mathlib.Core.List.{List, [], ◌∷◌, ◌++◌, append_assoc, append-nil}
use native.Mathlib.Omega.{arith}
use lib.ListN.{length, length-append}
use borrow.Author.Tests.{eqb-true}
use Rattle.types.specs.declared.types.ProducerHandle.{ProducerHandle}
use Rattle.queue.specs.Queue.{Queue, new_queue}
use Rattle.queue.specs.Frame.{Frame}
use Rattle.queue.specs.Message.{Message}
use Rattle.queue.specs.Read.{read_from, read}
use Rattle.queue.specs.Run.{Call, AllRanged, step, after, frame_of, taken, accepted_by, accepted}
use Rattle.queue.specs.Order.{AllCovered, OrderRule, SameFramesRule}
use Rattle.queue.specs.Chunks.{CallByCall, no_call, one_call, ChunkRule}
use Rattle.queue.proofs.Moves.{Well}
use Rattle.queue.proofs.Reached.{step_well, run_well, new_well}
use Rattle.queue.proofs.Groups.{frames_all}
use Rattle.queue.proofs.Sends.{Holds, empty_open, all_count}
use Rattle.queue.proofs.Steps.{step_holds}
use Rattle.queue.proofs.Takes.{takes_end, takes_only}

-- ── the calls ──

-- what holds after calls that appended these frames
record Ran (store : List ℕ) (q : Queue) (cs : List Call) (took : List Frame) (acc : List Message) (all : List Frame) : Type 0 where
  more : List Frame
  calls : CallByCall store q cs more
  holds : Holds store (after store q cs).handle (after store q cs).out took acc (all ++ more)

runs_hold : (store : List ℕ) (cs : List Call) (q : Queue) (took : List Frame) (acc : List Message) (all : List Frame)
    → Holds store q.handle q.out took acc all → Well q → AllRanged cs → AllCovered store q cs
    → Ran store q cs (took ++ taken store q cs) (acc ++ accepted store q cs) all
unfolding after taken accepted
runs_hold store [] q took acc all k w is64 covered =
    record { more = []; calls = no_call; holds = rw (append-nil took, append-nil acc, append-nil all) k }
runs_hold store (c ∷ cs) q took acc all k w is64 covered =
    let r = step store c q in
    let took₁ = frame_of c r.1 in
    let acc₁ = accepted_by store c r.1 in
    let h = step_holds store q took acc all k w c is64.0 covered.0 in
    let all₁ = all ++ h.flushes ++ h.own in
    let well = step_well store q w c is64.0 in
    let ran = runs_hold store cs r.0 (took ++ took₁) (acc ++ acc₁) all₁ h.holds well is64.1 covered.1 in
    let grown : all ++ (h.flushes ++ (h.own ++ ran.more)) ≡ all₁ ++ ran.more =
    sym (append_assoc (all ++ h.flushes) h.own ran.more ∙ append_assoc all h.flushes (h.own ++ ran.more)) in
    let found = all_count store q.handle q.out took acc all k w.out in
    let left = all_count store r.0.handle r.0.out (took ++ took₁) (acc ++ acc₁) all₁ h.holds well.out in
    let waits : q.out.waiting + length (h.flushes ++ h.own) ≡ r.0.out.waiting + length took₁ =
    omega (arith, found, rw (append_assoc all h.flushes h.own, length-append all, length-append took) at left) in
    record {
      more = h.flushes ++ (h.own ++ ran.more);
      calls = one_call h.flushes h.own h.of_batch h.cut waits ran.calls;
      holds = rw (
        ← append_assoc took took₁ (taken store r.0 cs),
        ← append_assoc acc acc₁ (accepted store r.0 cs),
        grown,
      ) ran.holds;
    }

new_holds : (store : List ℕ) (handle : ProducerHandle) → Holds store handle (new_queue handle).out [] [] []
unfolding read_from
new_holds store handle =
    record {
      groups = [];
      opened = [];
      stands = record { frames = refl; held = refl; agrees = tt };
      count = refl;
      kept = tt;
      seen = [];
      frames = refl;
      reads = refl;
      same = refl;
    }

run_holds : (store : List ℕ) (handle : ProducerHandle) (cs : List Call) → AllRanged cs → AllCovered store (new_queue handle) cs
    → Ran store (new_queue handle) cs (taken store (new_queue handle) cs) (accepted store (new_queue handle) cs) []
run_holds store handle cs is64 covered =
    runs_hold store cs (new_queue handle) [] [] [] (new_holds store handle) (new_well handle) is64 covered

-- ── the rules ──

pub order_rule : OrderRule
unfolding read
order_rule store handle cs p =
    let q₀ = new_queue handle in
    let q = after store q₀ cs in
    let w = run_well store cs q₀ (new_well handle) p.ranged in
    let h = run_holds store handle cs p.ranged p.covered in
    let k = h.holds in
    let none_open = empty_open store q.handle q.out (taken store q₀ cs) (accepted store q₀ cs) h.more k (eqb-true q.out.batch.len 0 p.emptied) in
    let seen : k.seen ≡ accepted store q₀ cs = rw (none_open, append-nil) at k.same in
    record {
      waiting = frames_all store q.handle k.groups;
      ends = takes_end store q.out.waiting q k.groups k.opened k.stands w (omega arith);
      only = λ fs t. takes_only store q fs t k.groups k.opened k.stands;
      reads = rw (k.frames, k.reads, seen);
    }

-- frames that are equal have one reading
pub same_frames_rule : SameFramesRule
same_frames_rule store₁ store₂ handle₁ handle₂ cs₁ cs₂ waiting₁ waiting₂ p₁ p₂ t₁ t₂ e =
    let o₁ = order_rule store₁ handle₁ cs₁ p₁ in
    let o₂ = order_rule store₂ handle₂ cs₂ p₂ in
    let w₁ = o₁.only waiting₁ t₁ in
    let w₂ = o₂.only waiting₂ t₂ in
    let r₁ : read (taken store₁ (new_queue handle₁) cs₁ ++ waiting₁) ≡ Some (accepted store₁ (new_queue handle₁) cs₁) = rw w₁ o₁.reads in
    let r₂ : read (taken store₂ (new_queue handle₂) cs₂ ++ waiting₂) ≡ Some (accepted store₂ (new_queue handle₂) cs₂) = rw w₂ o₂.reads in
    cc

pub chunk_rule : ChunkRule
chunk_rule store handle cs waiting is64 covered t =
    let q = after store (new_queue handle) cs in
    let h = run_holds store handle cs is64 covered in
    let k = h.holds in
    rw (takes_only store q waiting t k.groups k.opened k.stands, k.frames) h.calls
