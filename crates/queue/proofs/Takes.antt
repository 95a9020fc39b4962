-- The takes that are left yield all waiting frames and then 10, whatever the buffers are that are long enough: each moves one frame out.
use Prim.Native.Nat.{ℕ, zero, suc, ◌≤◌}
use mathlib.Core.Path.{◌≡◌, refl, ap, ◌∙◌}
use mathlib.Core.Bool.{Bool, true, false}
use mathlib.Core.List.{List, [], ◌∷◌}
use native.Mathlib.Omega.{arith}
use lib.ListN.{length}
use lib.Dec.{ltb}
use borrow.Author.Tests.{le-ltb}
use Rattle.laws.specs.Choice.{pick}
use Rattle.types.specs.declared.message.SingleMessage.{SingleMessage}
use Rattle.queue.specs.Queue.{Queue, Outgoing, refused, done, refuse, with_out}
use Rattle.queue.specs.Frame.{Frame}
use Rattle.queue.specs.Take.{next_outbound_frame}
use Rattle.queue.specs.Run.{take, Waiting, none_waits, one_waits}
use Rattle.queue.proofs.Moves.{Well}
use Rattle.queue.proofs.Reached.{step_well}
use Rattle.queue.proofs.Groups.{Group, Stands, Next, next, none_left, frames_all}
use Rattle.laws.proofs.Choice.{differ}

-- into a buffer that is long enough
taken_whole : (store : List ℕ) (q : Queue) (g : Group) (gs : List Group) (ms : List SingleMessage) (x : Next store q g gs ms)
    → next_outbound_frame store (length x.frame.payload) q ≡ (with_out x.rest q, done x.frame)
taken_whole store q g gs ms x =
    let n = length x.frame.payload in
    x.takes n ∙ rw (le-ltb n n (omega arith))

well_left : (store : List ℕ) (q p : Queue) (f : Frame) (room : ℕ) → Well q → next_outbound_frame store room q ≡ (p, done f) → Well p
well_left store q p f room w e = rw e at (step_well store q w (take room) tt)

-- they yield all waiting frames, and then 10
pub takes_end : (store : List ℕ) (n : ℕ) (q : Queue) (gs : List Group) (ms : List SingleMessage) → Stands store q.out gs ms → Well q
    → q.out.waiting ≤ n → Waiting store q (frames_all store q.handle gs)
takes_end store zero q [] ms k w h = none_waits {q = q} 0 (rw (none_left store 0 q k.frames))
takes_end store (suc n) q [] ms k w h = none_waits {q = q} 0 (rw (none_left store 0 q k.frames))
takes_end store zero q (g ∷ gs) ms k w h =
    let each = rw k.frames at w.out.each in
    let counted = rw k.frames at w.out.counted in
    absurd (omega (arith, each.0))
takes_end store (suc n) q (g ∷ gs) ms k w h =
    let x = next store q g gs ms k in
    let room = length x.frame.payload in
    let p = with_out x.rest q in
    let e : next_outbound_frame store room q ≡ (p, done x.frame) = taken_whole store q g gs ms x in
    let more : Waiting store p (frames_all store q.handle x.groups) =
    takes_end store n p x.groups ms x.stands (well_left store q p x.frame room w e) (omega (arith, x.fewer)) in
    let left : Waiting store (next_outbound_frame store room q).0 (frames_all store q.handle x.groups) = rw e more in
    rw x.moved (one_waits {q = q} {f = x.frame} room (ap (λ r. r.1) e) left)

-- whatever the buffers are that are long enough
pub takes_only : (store : List ℕ) (q : Queue) (fs : List Frame) → Waiting store q fs → (gs : List Group) (ms : List SingleMessage)
    → Stands store q.out gs ms → fs ≡ frames_all store q.handle gs
takes_only store q fs (none_waits room e) [] ms k = refl
takes_only store q fs (none_waits room e) (g ∷ gs) ms k =
    let x = next store q g gs ms k in
    go (ltb room (length x.frame.payload)) x.frame x.rest (ap (λ r. r.1) (x.takes room))
  where
    go : (b : Bool) (f : Frame) (o : Outgoing) → (next_outbound_frame store room q).1 ≡ (pick b (refuse 9 q) (with_out o q, done f)).1
        → [] ≡ frames_all store q.handle (g ∷ gs)
    go true f o e₁ = differ (cc)
    go false f o e₁ = differ (cc)
takes_only store q fs (one_waits {f = f} {fs = rest} room e t) [] ms k =
    let e₁ : (next_outbound_frame store room q).1 ≡ refused 10 [] = ap (λ r. r.1) (none_left store room q k.frames) in
    differ (cc)
takes_only store q fs (one_waits {f = f} {fs = rest} room e t) (g ∷ gs) ms k =
    let x = next store q g gs ms k in
    rw x.moved (go (ltb room (length x.frame.payload)) x.frame x.rest (x.takes room) x.groups x.stands (takes_only store _ rest t))
  where
    go : (b : Bool) (f₁ : Frame) (o : Outgoing) → next_outbound_frame store room q ≡ pick b (refuse 9 q) (with_out o q, done f₁)
        → (gs₁ : List Group) → Stands store o gs₁ ms
        → ((gs₂ : List Group) (ms₂ : List SingleMessage) → Stands store (next_outbound_frame store room q).0.out gs₂ ms₂
        → rest ≡ frames_all store (next_outbound_frame store room q).0.handle gs₂)
        → f ∷ rest ≡ f₁ ∷ frames_all store q.handle gs₁
    go true f₁ o e₁ gs₁ k₁ more = differ (cc (ap (λ r. r.1) e₁))
    go false f₁ o e₁ gs₁ k₁ more =
        let same : f ≡ f₁ = cc (ap (λ r. r.1) e₁) in
        let tail : rest ≡ frames_all store q.handle gs₁ = rw e₁ at (more gs₁ ms (rw e₁ k₁)) in
        rw (same, tail)
