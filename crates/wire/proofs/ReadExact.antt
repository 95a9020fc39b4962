-- The other direction: bytes that have a reading are exactly those that are written of what was read, so the reader takes no other
-- layout. Each reader that answers has passed all its tests, and these leave it the writer's bytes.
use Rattle.std.specs.Prelude.{Option, Some, None}
use Prim.Native.Nat.{ℕ, zero, suc, ◌^◌, ◌<◌}
use mathlib.Core.Path.{◌≡◌, refl, ◌∙◌}
use mathlib.Core.List.{List, [], ◌∷◌, ◌++◌}
use mathlib.Core.Bool.{Bool}
use native.Mathlib.Omega.{arith}
use Rattle.std.proofs.lemmas.Grind.{common_steps}
use lib.ListN.{length}
use lib.Dec.{eqb}
use Rattle.wire.specs.Proto.{Byte, varint, key, varint_field, bytes_field, bool_number, bool_field, optional, be32}
use Rattle.wire.specs.Single.{SingleMetadata, single}
use Rattle.wire.specs.Batch.{Item, item, items, All}
use Rattle.wire.specs.Read.{Got, bind, got_then, got_all, cons?, read_varint, read_below, read_count, read_bytes, read_uint64, read_size, read_bool, after_key, read_field, present, read_optional, read_fields, read_single, read_be32, with_payload, read_item, read_items}
use Rattle.wire.proofs.VarintLaws.{small, large}

-- ── how a reading came about ──

pub not_read : {A : Type 0} {x : A} {P : Type 0} → None ≡ Some x → P
not_read e = let z : ◌≡◌ {A = ℕ} 0 1 = cc in absurd (omega arith)

pub then_read : {A B P : Type 0} (g : Got A) (f : A → List ℕ → Option B) (y : B) → got_then g f ≡ Some y
    → ((x : A) (r : List ℕ) → g ≡ Some (x, r) → f x r ≡ Some y → P) → P
then_read None f y e on = not_read e
then_read (Some p) f y e on = on p.0 p.1 refl e

pub then_bind : {A B P : Type 0} (o : Option A) (f : A → Option B) (y : B) → bind o f ≡ Some y
    → ((x : A) → o ≡ Some x → f x ≡ Some y → P) → P
then_bind None f y e on = not_read e
then_bind (Some x) f y e on = on x refl e

all_left : (a b : List ℕ) → All Byte (a ++ b) → All Byte a
all_left [] b h = tt
all_left (x ∷ a) b h = grind (arith, all_left a b)

all_right : (a b : List ℕ) → All Byte (a ++ b) → All Byte b
all_right [] b h = h
all_right (x ∷ a) b h = all_right a b h.1

-- what follows bytes is bytes
follows : {bs : List ℕ} (a r : List ℕ) → bs ≡ a ++ r → All Byte bs → All Byte r
follows a r e h = all_right a r (rw e at h)

-- ── values ──

exact_varint : (bs : List ℕ) (v : ℕ) (r : List ℕ) → All Byte bs → read_varint bs ≡ Some (v, r) → bs ≡ varint v ++ r
unfolding read_varint
exact_varint [] v r h e = grind (arith, common_steps)
exact_varint (b ∷ bs) v r h e = grind (arith, common_steps, small, large, exact_varint bs)

exact_below : (limit : ℕ) (bs : List ℕ) (v : ℕ) (r : List ℕ) → All Byte bs → read_below limit bs ≡ Some (v, r)
    → (bs ≡ varint v ++ r) × (v < limit)
unfolding read_below
exact_below limit bs v r h e = grind (arith, common_steps, exact_varint)

exact_count : (n : ℕ) (bs x r : List ℕ) → read_count n bs ≡ Some (x, r) → (bs ≡ x ++ r) × (length x ≡ n)
unfolding read_count
exact_count n bs x r e = grind (arith, common_steps)

exact_bytes : (bs x r : List ℕ) → All Byte bs → read_bytes bs ≡ Some (x, r) → bs ≡ varint (length x) ++ (x ++ r)
unfolding read_bytes
exact_bytes bs x r h e = grind (arith, common_steps, exact_varint, exact_count)

number_bool : (v : ℕ) → v < 2 → bool_number (eqb v 1) ≡ v
number_bool v h = grind (arith, common_steps)

exact_bool : (bs : List ℕ) (b : Bool) (r : List ℕ) → All Byte bs → read_bool bs ≡ Some (b, r) → bs ≡ varint (bool_number b) ++ r
exact_bool bs b r h e =
    then_read (read_below 2 bs) _ (b, r) e (λ v t g u.
    let q = exact_below 2 bs v t h g in
    grind (arith, number_bool v q.1))

-- ── fields ──

exact_key : (tag wire : ℕ) (bs r : List ℕ) → All Byte bs → after_key tag wire bs ≡ Some r → bs ≡ key tag wire ++ r
unfolding after_key key
exact_key tag wire bs r h e = grind (arith, common_steps, exact_varint)

module _ {A : Type 0} (tag wire : ℕ) (value : List ℕ → Got A) (field : A → List ℕ)
    (exact : (bs : List ℕ) (x : A) (r : List ℕ) → All Byte bs → value bs ≡ Some (x, r) → key tag wire ++ bs ≡ field x ++ r)
    (bs : List ℕ) (r : List ℕ) (h : All Byte bs) where
  exact_field : (x : A) → read_field tag wire value bs ≡ Some (x, r) → bs ≡ field x ++ r
  exact_field x e =
      then_bind (after_key tag wire bs) value (x, r) e (λ s k v.
      let q = exact_key tag wire bs s h k in
      q ∙ exact s x r (follows (key tag wire) s q h) v)

  exact_optional : (x : Option A) → read_optional tag wire value bs ≡ Some (x, r) → bs ≡ optional field x ++ r
  exact_optional x e = go (after_key tag wire bs) refl e
    where
      go : (o : Option (List ℕ)) → after_key tag wire bs ≡ o → present value bs o ≡ Some (x, r) → bs ≡ optional field x ++ r
      go None k e = grind arith
      go (Some s) k e =
          let q = exact_key tag wire bs s h k in
          then_read (value s) _ (x, r) e (λ y t g u. grind (arith, exact s y t (follows (key tag wire) s q h) g))

exact_number : (limit tag : ℕ) (bs : List ℕ) (v : ℕ) (r : List ℕ) → All Byte bs → read_below limit bs ≡ Some (v, r)
    → key tag 0 ++ bs ≡ varint_field tag v ++ r
unfolding varint_field
exact_number limit tag bs v r h e = grind (arith, common_steps, exact_below)

exact_mark : (tag : ℕ) (bs : List ℕ) (b : Bool) (r : List ℕ) → All Byte bs → read_bool bs ≡ Some (b, r)
    → key tag 0 ++ bs ≡ bool_field tag b ++ r
unfolding varint_field
exact_mark tag bs b r h e = grind (arith, common_steps, exact_bool)

exact_part : (tag : ℕ) (bs x r : List ℕ) → All Byte bs → read_bytes bs ≡ Some (x, r)
    → key tag 2 ++ bs ≡ bytes_field tag x ++ r
unfolding bytes_field
exact_part tag bs x r h e = grind (arith, common_steps, exact_bytes)

-- a field read, and what follows it
module _ {A B P : Type 0} (tag wire : ℕ) (value : List ℕ → Got A) (field : A → List ℕ)
    (exact : (bs : List ℕ) (x : A) (r : List ℕ) → All Byte bs → value bs ≡ Some (x, r) → key tag wire ++ bs ≡ field x ++ r)
    (bs : List ℕ) (h : All Byte bs) (y : B) where
  then_field : (f : A → List ℕ → Option B) → got_then (read_field tag wire value bs) f ≡ Some y
      → ((x : A) (r : List ℕ) → bs ≡ field x ++ r → All Byte r → f x r ≡ Some y → P) → P
  then_field f e on =
      then_read (read_field tag wire value bs) f y e (λ x r g t.
      let q = exact_field tag wire value field exact bs r h x g in
      on x r q (follows (field x) r q h) t)

  then_optional : (f : Option A → List ℕ → Option B) → got_then (read_optional tag wire value bs) f ≡ Some y
      → ((x : Option A) (r : List ℕ) → bs ≡ optional field x ++ r → All Byte r → f x r ≡ Some y → P) → P
  then_optional f e on =
      then_read (read_optional tag wire value bs) f y e (λ x r g t.
      let q = exact_optional tag wire value field exact bs r h x g in
      on x r q (follows (optional field x) r q h) t)

-- ── single metadata ──

exact_fields : (bs : List ℕ) (m : SingleMetadata) (r : List ℕ) → All Byte bs → read_fields bs ≡ Some (m, r)
    → bs ≡ single m ++ r
unfolding read_fields single
exact_fields bs m r h e =
    then_optional 2 2 read_bytes (bytes_field 2) (exact_part 2) bs h (m, r) _ e (λ k r₁ e₁ h₁ t₁.
    then_field 3 0 read_size (varint_field 3) (exact_number (2 ^ 31) 3) r₁ h₁ (m, r) _ t₁ (λ s r₂ e₂ h₂ t₂.
    then_optional 5 0 read_uint64 (varint_field 5) (exact_number (2 ^ 64) 5) r₂ h₂ (m, r) _ t₂ (λ t r₃ e₃ h₃ t₃.
    then_optional 7 2 read_bytes (bytes_field 7) (exact_part 7) r₃ h₃ (m, r) _ t₃ (λ o r₄ e₄ h₄ t₄.
    then_optional 9 0 read_bool (bool_field 9) (exact_mark 9) r₄ h₄ (m, r) _ t₄ (λ n r₅ e₅ h₅ t₅.
    then_optional 10 0 read_bool (bool_field 10) (exact_mark 10) r₅ h₅ (m, r) _ t₅ (λ p r₆ e₆ h₆ t₆.
    grind (arith, common_steps)))))))

pub exact_single : (bs : List ℕ) (m : SingleMetadata) → All Byte bs → read_single bs ≡ Some m → bs ≡ single m
unfolding read_single
exact_single bs m h e = go (read_fields bs) refl e
  where
    go : (g : Got SingleMetadata) → read_fields bs ≡ g → got_all g ≡ Some m → bs ≡ single m
    go None k e = not_read e
    go (Some p) k e = let q = exact_fields bs p.0 p.1 h k in grind (arith, common_steps)

-- ── items ──

exact_be32 : (bs : List ℕ) (n : ℕ) (r : List ℕ) → All Byte bs → read_be32 bs ≡ Some (n, r) → bs ≡ be32 n ++ r
unfolding read_be32 be32
exact_be32 bs n r h e = grind (arith, common_steps)

made : (bs r₁ head r₂ payload r : List ℕ) (n : ℕ) (m : SingleMetadata) → bs ≡ be32 n ++ r₁ → r₁ ≡ head ++ r₂
    → length head ≡ n → head ≡ single m → r₂ ≡ payload ++ r → length payload ≡ m.payload_size
    → bs ≡ item (with_payload m payload) ++ r
unfolding item
made bs r₁ head r₂ payload r n m e₁ e₂ l e₃ e₄ s = grind (arith, common_steps)

pub exact_item : (bs : List ℕ) (i : Item) (r : List ℕ) → All Byte bs → read_item bs ≡ Some (i, r) → bs ≡ item i ++ r
unfolding read_item
exact_item bs i r h e =
    then_read (read_be32 bs) _ (i, r) e (λ n r₁ g₁ t₁.
    then_read (read_count n r₁) _ (i, r) t₁ (λ head r₂ g₂ t₂.
    then_bind (read_single head) _ (i, r) t₂ (λ m g₃ t₃.
    then_read (read_count m.payload_size r₂) _ (i, r) t₃ (λ payload r₃ g₄ t₄.
    let e₁ = exact_be32 bs n r₁ h g₁ in
    let q₂ = exact_count n r₁ head r₂ g₂ in
    let q₄ = exact_count m.payload_size r₂ payload r₃ g₄ in
    let e₃ = exact_single head m (all_left head r₂ (rw q₂.0 at (follows (be32 n) r₁ e₁ h))) g₃ in
    let z = made bs r₁ head r₂ payload r₃ n m e₁ q₂.0 q₂.1 e₃ q₄.0 q₄.1 in
    grind arith))))

-- so many items, filling the payload
pub exact_items : (n : ℕ) (bs : List ℕ) (is : List Item) → All Byte bs → read_items n bs ≡ Some is
    → (bs ≡ items is) × (length is ≡ n)
unfolding read_items items
exact_items zero [] is h e = grind (arith, common_steps)
exact_items zero (b ∷ bs) is h e = grind (arith, common_steps)
exact_items (suc n) bs is h e =
    then_read (read_item bs) (λ i r. cons? i (read_items n r)) is e (λ i r g t.
    let q = exact_item bs i r h g in
    let f = follows (item i) r q h in
    grind (arith, common_steps, exact_items n r))
