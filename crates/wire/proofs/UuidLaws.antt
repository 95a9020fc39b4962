-- A uuid's text is 36 characters and is read back: byte by byte, with the dash that stands before it.
use Rattle.std.specs.Prelude.{Some}
use Prim.Native.Nat.{ℕ, zero, suc, ◌+◌, ◌<◌}
use mathlib.Core.Path.{◌≡◌, refl, sym, ap, ◌∙◌}
use mathlib.Core.List.{List, [], ◌∷◌, ◌++◌}
use native.Mathlib.Omega.{arith}
use Rattle.std.proofs.lemmas.Grind.{common_steps}
use lib.ListN.{length, drop, get_or}
use lib.Seq.{drop-cons}
use Rattle.wire.specs.Batch.{All}
use Rattle.wire.specs.Proto.{Byte}
use Rattle.wire.specs.Uuid.{hex_digit, hex_byte, hex_text, dash, text_from, uuid_text, read_digit, read_hex, read_dash, read_text, read_uuid}
use Rattle.wire.proofs.ReadExact.{then_read, then_bind}

-- one byte more
pub text_step : (uuid : List ℕ) (i : ℕ) → i < length uuid
    → text_from i (drop i uuid) ≡ dash i ++ (hex_byte (get_or uuid i 0) ++ text_from (i + 1) (drop (i + 1) uuid))
unfolding text_from
text_step uuid i h = grind (arith, common_steps, drop-cons)

-- how many characters n bytes from the i-th on become
abbrev characters : ℕ → ℕ → ℕ
characters zero i = 0
characters (suc n) i = length (dash i) + (2 + characters n (suc i))

text_characters : (bs : List ℕ) (i : ℕ) → length (text_from i bs) ≡ characters (length bs) i
unfolding text_from
text_characters [] i = refl
text_characters (b ∷ bs) i = grind (arith, common_steps, text_characters bs (suc i))

pub text_length : (uuid : List ℕ) → length uuid ≡ 16 → length (text_from 0 uuid) ≡ 36
text_length uuid h = text_characters uuid 0 ∙ ap (λ n. characters n 0) h

-- a list of n elements, one by one
abbrev elements : ℕ → List ℕ → List ℕ
elements zero l = []
elements (suc n) l = get_or l 0 0 ∷ elements n (drop 1 l)

all_elements : (l : List ℕ) → elements (length l) l ≡ l
all_elements [] = refl
all_elements (x ∷ l) = grind (arith, all_elements l)

-- the text in groups is the text byte by byte: both are computed from 16 elements
pub by_bytes : (uuid : List ℕ) → length uuid ≡ 16 → uuid_text uuid ≡ text_from 0 uuid
unfolding uuid_text hex_text text_from
by_bytes uuid h =
    let e : elements 16 uuid ≡ uuid = ap (λ n. elements n uuid) (sym h) ∙ all_elements uuid in
    ap uuid_text (sym e) ∙ ap (λ l. text_from 0 l) e

-- ── the reverse reading ──

read_digit_lem : (n : ℕ) → n < 16 → read_digit (hex_digit n) ≡ Some n
read_digit_lem n h = grind (arith, common_steps)

read_hex_lem : (b : ℕ) (rest : List ℕ) → b < 256 → read_hex (hex_byte b ++ rest) ≡ Some (b, rest)
read_hex_lem b rest h = grind (arith, common_steps, read_digit_lem)

read_dash_lem : (i : ℕ) (rest : List ℕ) → read_dash i (dash i ++ rest) ≡ Some rest
read_dash_lem i rest = grind (arith, common_steps)

read_text_lem : (bs : List ℕ) (i : ℕ) → All Byte bs → read_text (length bs) i (text_from i bs) ≡ Some bs
unfolding read_text text_from
read_text_lem [] i a = refl
read_text_lem (b ∷ bs) i a = grind (arith, common_steps, read_dash_lem, read_hex_lem, read_text_lem bs (suc i))

pub read_uuid_lem : (uuid : List ℕ) → length uuid ≡ 16 → All Byte uuid → read_uuid (uuid_text uuid) ≡ Some uuid
unfolding read_uuid
read_uuid_lem uuid h a = grind (arith, by_bytes, read_text_lem)

-- ── and a text that has a reading is the text of what was read ──

exact_digit : (c n : ℕ) → read_digit c ≡ Some n → (hex_digit n ≡ c) × (n < 16)
exact_digit c n e = grind (arith, common_steps)

exact_hex : (cs : List ℕ) (b : ℕ) (r : List ℕ) → read_hex cs ≡ Some (b, r) → cs ≡ hex_byte b ++ r
exact_hex cs b r e = grind (arith, common_steps, exact_digit)

exact_dash : (i : ℕ) (cs r : List ℕ) → read_dash i cs ≡ Some r → cs ≡ dash i ++ r
exact_dash i cs r e = grind (arith, common_steps)

exact_text : (n i : ℕ) (cs bs : List ℕ) → read_text n i cs ≡ Some bs → (cs ≡ text_from i bs) × (length bs ≡ n)
unfolding read_text text_from
exact_text zero i [] bs e = grind (arith, common_steps)
exact_text zero i (c ∷ cs) bs e = grind (arith, common_steps)
exact_text (suc n) i cs bs e =
    then_bind (read_dash i cs) _ bs e (λ r g t.
    then_read (read_hex r) _ bs t (λ b rest h u.
    let d = exact_dash i cs r g in
    let x = exact_hex r b rest h in
    grind (arith, common_steps, exact_text n (suc i) rest)))

pub exact_uuid : (text uuid : List ℕ) → read_uuid text ≡ Some uuid → (text ≡ uuid_text uuid) × (length uuid ≡ 16)
unfolding read_uuid
exact_uuid text uuid e =
    let q = exact_text 16 0 text uuid e in
    (q.0 ∙ sym (by_bytes uuid q.1), q.1)
