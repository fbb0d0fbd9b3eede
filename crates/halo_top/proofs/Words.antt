-- A list of some words, by its items.
use Rattle.std.proofs.Common.{◌≡◌, ◌<◌, ◌≤◌, List, [], ◌∷◌, map, length, get_or, string_bytes, Global, arith, refl}
use Rattle.std.specs.Prelude.{String}

-- a list of two
pub two_words : (words : List (String Global)) (a b : String Global) → 2 ≤ length words → length words < 3
    → a ≡ get_or words 0 a → b ≡ get_or words 1 b → map string_bytes words ≡ string_bytes a ∷ string_bytes b ∷ []
two_words [] a b low high p q = absurd (omega arith)
two_words (x ∷ []) a b low high p q = absurd (omega arith)
two_words (x ∷ y ∷ []) a b low high p q = rw (p, q) refl
two_words (x ∷ y ∷ z ∷ rest) a b low high p q = absurd (omega arith)

-- a list of three
pub three_words : (words : List (String Global)) (a b c : String Global) → 3 ≤ length words → length words < 4 → a
    ≡ get_or words 0 a → b ≡ get_or words 1 b → c ≡ get_or words 2 c
    → map string_bytes words ≡ string_bytes a ∷ string_bytes b ∷ string_bytes c ∷ []
three_words [] a b c low high p q r = absurd (omega arith)
three_words (x ∷ []) a b c low high p q r = absurd (omega arith)
three_words (x ∷ y ∷ []) a b c low high p q r = absurd (omega arith)
three_words (x ∷ y ∷ z ∷ []) a b c low high p q r = rw (p, q, r) refl
three_words (x ∷ y ∷ z ∷ w ∷ rest) a b c low high p q r = absurd (omega arith)

-- a list of four
pub four_words : (words : List (String Global)) (a b c d : String Global) → 4 ≤ length words → length words < 5 → a
    ≡ get_or words 0 a → b ≡ get_or words 1 b → c ≡ get_or words 2 c → d ≡ get_or words 3 d
    → map string_bytes words ≡ string_bytes a ∷ string_bytes b ∷ string_bytes c ∷ string_bytes d ∷ []
four_words [] a b c d low high p q r s = absurd (omega arith)
four_words (x ∷ []) a b c d low high p q r s = absurd (omega arith)
four_words (x ∷ y ∷ []) a b c d low high p q r s = absurd (omega arith)
four_words (x ∷ y ∷ z ∷ []) a b c d low high p q r s = absurd (omega arith)
four_words (x ∷ y ∷ z ∷ w ∷ []) a b c d low high p q r s = rw (p, q, r, s) refl
four_words (x ∷ y ∷ z ∷ w ∷ v ∷ rest) a b c d low high p q r s = absurd (omega arith)
