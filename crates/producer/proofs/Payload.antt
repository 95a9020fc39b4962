-- The payload of the front frame: the items of a batch, or a part of the store. Assumes nothing.
use Rattle.std.proofs.Common.{◌≡◌, ℕ, ◌+◌, ◌≤◌, true, false, List, length, take, drop, sym, ap, ◌∙◌, subst}
use Rattle.laws.specs.Choice.{pick}
use Rattle.laws.proofs.Choice.{pick_true, pick_false}
use Rattle.types.specs.declared.frame.FrameKind.{FrameKind}
use Rattle.types.specs.declared.message.SingleMessage.{SingleMessage}
use Rattle.wire.specs.Batch.{batch_payload}
use Rattle.wire.specs.Buffer.{Room, Puts}
use Rattle.queue.specs.Frame.{all_in}
use Rattle.frames.specs.declared.span.Span.{Span}
use Rattle.frames.specs.Span.{is_batch}

-- the bytes that are written
abbrev pub payload_of : List ℕ → FrameKind → Span → List SingleMessage → List ℕ
payload_of store k s ms = pick (is_batch k) (batch_payload store ms) (take s.len (drop s.start store))

-- what their writers ask
pub record Writable (store : List ℕ) (k : FrameKind) (s : Span) (ms : List SingleMessage) (before : List ℕ) : Type 0 where
  pub held : is_batch k ≡ true → all_in (length store) ms ≡ true
  pub own : is_batch k ≡ false → s.start + s.len ≤ length store
  pub room : Room (payload_of store k s ms) before

module _ (store : List ℕ) (k : FrameKind) (s : Span) (ms : List SingleMessage) (before : List ℕ) where
  pub items_room : is_batch k ≡ true → Writable store k s ms before → Room (batch_payload store ms) before
  items_room e w = subst (λ (l : List ℕ). Room l before) (pick_true _ _ e) w.room

  pub items_put : (after : List ℕ) (x : ℕ) → is_batch k ≡ true → Puts (batch_payload store ms) before after x
      → Puts (payload_of store k s ms) before after x
  items_put after x e = subst (λ (l : List ℕ). Puts l before after x) (sym (pick_true _ _ e))

  -- a part that is as long as the span
  part_is : (n : ℕ) → n ≡ s.len → is_batch k ≡ false → payload_of store k s ms ≡ take n (drop s.start store)
  part_is n m e = pick_false _ _ e ∙ ap (λ (j : ℕ). take j (drop s.start store)) (sym m)

  pub part_room : (n : ℕ) → n ≡ s.len → is_batch k ≡ false → Writable store k s ms before → Room (take n (drop s.start store)) before
  part_room n m e w = subst (λ (l : List ℕ). Room l before) (part_is n m e) w.room

  pub part_put : (after : List ℕ) (x n : ℕ) → n ≡ s.len → is_batch k ≡ false → Puts (take n (drop s.start store)) before after x
      → Puts (payload_of store k s ms) before after x
  part_put after x n m e = subst (λ (l : List ℕ). Puts l before after x) (sym (part_is n m e))
