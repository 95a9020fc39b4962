-- The text form of a uuid: 16 bytes become 36 lowercase characters, 8-4-4-4-12 (document 01, 'producer.rs: sends').
use Rattle.std.specs.Prelude.{ℕ, zero, suc, ◌+◌, ◌-◌, ◌*◌, ◌/◌, ◌%◌, List, [], ◌∷◌, ◌++◌, Bool, ◌&&◌, ◌||◌, take, drop, ltb, leb, eqb, None, Option, Some}
use Rattle.laws.specs.Choice.{pick}
use Rattle.wire.specs.Read.{Got, bind, got_then, cons?}

-- '0' to '9' are 48 to 57, 'a' to 'f' are 97 to 102
abbrev pub hex_digit : ℕ → ℕ
hex_digit n = pick (ltb n 10) (48 + n) (87 + n)

-- a byte is two digits, the high one first
abbrev pub hex_byte : ℕ → List ℕ
hex_byte b = hex_digit (b / 16) ∷ hex_digit (b % 16) ∷ []

unfoldable pub hex_text : List ℕ → List ℕ
hex_text [] = []
hex_text (b ∷ bs) = hex_byte b ++ hex_text bs

-- '-' is 45
abbrev pub hyphen : List ℕ
hyphen = 45 ∷ []

-- 4, 2, 2, 2 and 6 bytes, which are 8, 4, 4, 4 and 12 digits
unfoldable pub uuid_text : List ℕ → List ℕ
uuid_text uuid =
    hex_text (take 4 uuid)
    ++ hyphen
    ++ hex_text (take 2 (drop 4 uuid))
    ++ hyphen
    ++ hex_text (take 2 (drop 6 uuid))
    ++ hyphen
    ++ hex_text (take 2 (drop 8 uuid))
    ++ hyphen
    ++ hex_text (drop 10 uuid)

-- ── the same byte by byte (`by_bytes` in proofs/UuidLaws.antt): a '-' stands before byte 4, 6, 8 and 10 ──

abbrev pub dashed : ℕ → Bool
dashed i = eqb i 4 || eqb i 6 || eqb i 8 || eqb i 10

abbrev pub dash : ℕ → List ℕ
dash i = pick (dashed i) hyphen []

-- the bytes from the i-th on
unfoldable pub text_from : ℕ → List ℕ → List ℕ
text_from i [] = []
text_from i (b ∷ bs) = dash i ++ hex_byte b ++ text_from (suc i) bs

-- ── the reverse reading ──

-- a digit's number
abbrev pub read_digit : ℕ → Option ℕ
read_digit c =
    pick (leb 48 c && leb c 57) (Some (c - 48)) (pick (leb 97 c && leb c 102) (Some (c - 87)) None)

abbrev pub two_digits : Option ℕ → Option ℕ → List ℕ → Got ℕ
two_digits (Some high) (Some low) rest = Some (high * 16 + low, rest)
two_digits (Some high) None rest = None
two_digits None low rest = None

abbrev pub read_hex : List ℕ → Got ℕ
read_hex [] = None
read_hex (c ∷ []) = None
read_hex (c ∷ d ∷ rest) = two_digits (read_digit c) (read_digit d) rest

abbrev pub take_dash : List ℕ → Option (List ℕ)
take_dash [] = None
take_dash (c ∷ cs) = pick (eqb c 45) (Some cs) None

abbrev pub read_dash : ℕ → List ℕ → Option (List ℕ)
read_dash i cs = pick (dashed i) (take_dash cs) (Some cs)

-- n bytes, from the i-th on, that fill the text
unfoldable pub read_text : ℕ → ℕ → List ℕ → Option (List ℕ)
read_text zero i [] = Some []
read_text zero i (c ∷ cs) = None
read_text (suc n) i cs =
    bind (read_dash i cs) (λ r. got_then (read_hex r) (λ b rest. cons? b (read_text n (suc i) rest)))

unfoldable pub read_uuid : List ℕ → Option (List ℕ)
read_uuid text = read_text 16 0 text
