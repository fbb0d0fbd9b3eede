-- Texts in memory, and the bytes of each.
use Rattle.std.proofs.Common.{◌≡◌, ℕ, ◌-◌, ◌<◌, ◌≤◌, Bor, List, [], ◌∷◌, ap, sym, ◌∙◌, arith, drop, get_or, length, take}
use Rattle.std.proofs.lemmas.List.{get_or-map, length-map, take_rest}
use Rattle.halo_syntax.specs.LineReading.{bytes_of}
use Rattle.halo_syntax.proofs.lines.NoLines.{behind}

-- texts with these bytes are as many
pub same_length : (texts : List (Bor (List ℕ))) (words : List (List ℕ)) → bytes_of texts ≡ words
    → length texts ≡ length words
same_length texts words are = sym (length-map texts (λ text. text.now)) ∙ ap length are

-- the text at a place has the bytes of the word there
pub text_is : (texts : List (Bor (List ℕ))) (words : List (List ℕ)) → bytes_of texts ≡ words
    → (place : ℕ) (other : Bor (List ℕ)) → place < length texts
    → (get_or texts place other).now ≡ get_or words place other.now
text_is texts words are place other within =
    sym (get_or-map (λ text. text.now) texts place other other.now within) ∙ ap (λ ws. get_or ws place other.now) are

-- the texts behind the first have the bytes of the words behind the first
pub other_texts : (texts : List (Bor (List ℕ))) (word : List ℕ) (words : List (List ℕ)) → bytes_of texts ≡ word ∷ words
    → bytes_of (take (length texts - 1) (drop 1 texts)) ≡ words
other_texts [] word words are = absurd (omega (arith, ap length are))
other_texts (text ∷ texts) word words are = ap bytes_of (take_rest (text ∷ texts) 1) ∙ behind are

-- the first text, and those behind it
pub first_text : (texts : List (Bor (List ℕ))) (other : Bor (List ℕ)) → 1 ≤ length texts
    → bytes_of texts ≡ (get_or texts 0 other).now ∷ bytes_of (take (length texts - 1) (drop 1 texts))
first_text [] other some = absurd (omega arith)
first_text (text ∷ texts) other some = ap (λ rest. text.now ∷ bytes_of rest) (sym (take_rest (text ∷ texts) 1))

-- the first two texts, and those behind them
pub first_texts : (texts : List (Bor (List ℕ))) (other : Bor (List ℕ)) → 2 ≤ length texts
    → bytes_of texts ≡ (get_or texts 0 other).now ∷ (get_or texts 1 other).now ∷ bytes_of
    (take (length texts - 2) (drop 2 texts))
first_texts [] other some = absurd (omega arith)
first_texts (text ∷ []) other some = absurd (omega arith)
first_texts (text ∷ next ∷ texts) other some =
    ap (λ rest. text.now ∷ next.now ∷ bytes_of rest) (sym (take_rest (text ∷ next ∷ texts) 2))
