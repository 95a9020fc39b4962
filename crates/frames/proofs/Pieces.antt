-- Where a span is given, what the frame bears lies in the store. Assumes nothing.
use Prim.Native.Nat.{ℕ, ◌+◌, ◌≤◌}
use mathlib.Core.Bool.{Bool, true, false, ◌&&◌}
use mathlib.Core.Path.{◌≡◌, refl}
use borrow.Author.Tests.{leb-true}
use Rattle.std.specs.Prelude.{leb, Option, Some, None}
use Rattle.laws.specs.Choice.{pick}
use Rattle.laws.specs.Numbers.{add_sat}
use Rattle.laws.proofs.Choice.{and_left}
use Rattle.types.specs.declared.message.OutgoingMessage.{OutgoingMessage}
use Rattle.frames.specs.Span.{borne, span_at}
use Rattle.frames.specs.declared.span.Span.{Span}

pub some_picked : (b : Bool) (s t : Span) → pick b (Some s) None ≡ Some t → (b ≡ true) × (s ≡ t)
some_picked true s t e = (refl, cc)
some_picked false s t e = absurd (cc)

pub none_picked : (b : Bool) (s : Span) → ◌≡◌ {A = Option Span} (pick b (Some s) None) None → b ≡ false
none_picked true s e = absurd (cc)
none_picked false s e = refl

-- whether there is one
abbrev pub is_there : Option Span → Bool
is_there (Some s) = true
is_there None = false

pub there_if : (b : Bool) (s : Span) → b ≡ is_there (pick b (Some s) None)
there_if true s = refl
there_if false s = refl

pub record Piece (n : ℕ) (m : OutgoingMessage) (skip len : ℕ) (s : Span) : Type 0 where
  pub within : m.payload.start + skip + len ≤ n
  pub same : ◌≡◌ {A = Span} (record { start = add_sat m.payload.start skip; len = len }) s

pub piece_of : (n : ℕ) (m : OutgoingMessage) (skip len : ℕ) (s : Span) → span_at n m skip len ≡ Some s → Piece n m skip len s
piece_of n m skip len s e =
    let p = leb (m.payload.start + skip + len) n in
    let h = some_picked (p && borne n m) (record { start = add_sat m.payload.start skip; len = len }) s e in
    record { within = leb-true (m.payload.start + skip + len) n (and_left p (borne n m) h.0); same = h.1 }
