-- Lexemes are told by their texts.
use Rattle.std.proofs.Common.{◌≡◌, ◌↔◌, ℕ, ◌≤◌, Bool, true, List, [], ◌∷◌, ◌++◌, ap, ap₂, arith, inl, inr, length, refl, sym, ◌∙◌}
use Rattle.std.specs.Prelude.{◌==◌, All, not}
use Rattle.std.specs.Char.{is_ascii_alphabetic, is_ascii_digit}
use Rattle.std.specs.List.{list_all, list_any}
use Rattle.std.proofs.lemmas.Bool.{and_parts, both_ways, eqb-true, not-true, or_cases}
use Rattle.std.proofs.lemmas.Bool.Decides.{nat_tests}
use Rattle.std.proofs.lemmas.List.Elements.{All-cons, All-head, All-tail}
use Rattle.halo_text.specs.Name.{IsName, is_name_byte}
use Rattle.halo_text.specs.Number.{IsDigit}
use Rattle.halo_lex.specs.Cut.{AreLexemesOf, BeginsNoLexeme, IsStuckAt}
use Rattle.halo_lex.specs.Lexeme.{AreLexemes, AreLexemesBefore, BeginsWithout, Follows, IsLexeme, IsLongName, Lexeme, name, number, byte, is_symbol_byte, symbol_bytes, text_before, texts, texts_before}

-- equal lists have the same first byte
first_byte : {a b : ℕ} {r s : List ℕ} → a ∷ r ≡ b ∷ s → a ≡ b
first_byte e = cc

-- an empty list has no first byte
nil_is_no_cons : {b : ℕ} {more : List ℕ} → [] ≡ b ∷ more → ⊥
nil_is_no_cons e = absurd cc

-- a run of bytes that is taken as long as it goes is told by the bytes
run_one : (P : ℕ → Type 0) (xs ys r s : List ℕ) → All P xs → All P ys → BeginsWithout P r → BeginsWithout P s
    → xs ++ r ≡ ys ++ s → (xs ≡ ys) × (r ≡ s)
run_one P [] [] r s a b u v e = (refl, e)
run_one P [] (y ∷ ys) [] s a b u v e = absurd cc
run_one P [] (y ∷ ys) (z ∷ zs) s a b u v e =
    let same : y ≡ z = first_byte (sym e) in
    absurd (u (rw (← same) (All-head P y ys b)))
run_one P (x ∷ xs) [] r [] a b u v e = absurd cc
run_one P (x ∷ xs) [] r (z ∷ zs) a b u v e =
    let same : x ≡ z = first_byte e in
    absurd (v (rw (← same) (All-head P x xs a)))
run_one P (x ∷ xs) (y ∷ ys) r s a b u v e =
    let rest = run_one P xs ys r s (All-tail P x xs a) (All-tail P y ys b) u v cc in
    (cc, rest.1)

-- a letter may stand in a name
pub letter_in_name : (b : ℕ) → is_ascii_alphabetic b ≡ true → is_name_byte b ≡ true
letter_in_name b e = grind arith

-- each byte of a name may stand in one
long_name_all : (text : List ℕ) → IsLongName text → All (λ b. is_name_byte b ≡ true) text
long_name_all [] h = absurd h
long_name_all (first ∷ rest) h = All-cons (λ b. is_name_byte b ≡ true) first rest (letter_in_name first h.0) h.1

-- a byte that may be the first of a lexeme of the kind
abbrev Begins : Lexeme → ℕ → Type 0
Begins (name _) b = is_ascii_alphabetic b ≡ true
Begins (number _) b = IsDigit b
Begins (byte _) b = is_symbol_byte b ≡ true

-- a lexeme has a first byte
first_of : (lexeme : Lexeme) (rest : List ℕ) → IsLexeme lexeme
    → (b : ℕ) × (more : List ℕ) × (text_before lexeme rest ≡ b ∷ more) × Begins lexeme b
first_of (name []) rest is = absurd is
first_of (name (b ∷ text)) rest is = (b, text ++ rest, refl, is.0)
first_of (number []) rest is = let some = is.0 in absurd (omega arith)
first_of (number (b ∷ text)) rest is = (b, text ++ rest, refl, All-head IsDigit b text is.1)
first_of (byte b) rest is = (b, rest, refl, is)

-- what holds of each byte of a list holds of a byte that is among them
among : (test : ℕ → Bool) (b : ℕ) (bytes : List ℕ) → list_any (λ c. c == b) bytes ≡ true → list_all test bytes ≡ true
    → test b ≡ true
among test b [] any all = absurd cc
among test b (c ∷ bytes) any all =
    let both = and_parts (test c) (list_all test bytes) all in
    elim (or_cases (c == b) (list_any (λ d. d == b) bytes) any)
    [ inl same ↦ rw (eqb-true c b same) at both.0 | inr more ↦ among test b bytes more both.1 ]

-- a letter is no digit
letter_no_digit : (b : ℕ) → is_ascii_alphabetic b ≡ true → IsDigit b → ⊥
letter_no_digit b letter digit = grind arith

-- a letter is no byte that stands by itself
letter_no_symbol : (b : ℕ) → is_ascii_alphabetic b ≡ true → is_symbol_byte b ≡ true → ⊥
unfolding is_symbol_byte
letter_no_symbol b letter symbol =
    both_ways (is_ascii_alphabetic b) (not-true (is_ascii_alphabetic b)
    (among (λ c. not (is_ascii_alphabetic c)) b symbol_bytes symbol refl)) letter

-- a digit is no byte that stands by itself
digit_no_symbol : (b : ℕ) → IsDigit b → is_symbol_byte b ≡ true → ⊥
unfolding is_symbol_byte
digit_no_symbol b digit symbol =
    both_ways (is_ascii_digit b) (not-true (is_ascii_digit b)
    (among (λ c. not (is_ascii_digit c)) b symbol_bytes symbol refl)) (grind (arith, nat_tests))

-- two lexemes that begin the same bytes begin with the same byte
begin_alike : (lexeme other : Lexeme) (r s : List ℕ) → IsLexeme lexeme → IsLexeme other
    → text_before lexeme r ≡ text_before other s → (b : ℕ) × Begins lexeme b × Begins other b
begin_alike lexeme other r s is has e =
    let a = first_of lexeme r is in
    let b = first_of other s has in
    let same : b.0 ≡ a.0 = first_byte (sym b.2 ∙ sym e ∙ a.2) in
    (a.0, a.3, rw same at b.3)

-- bytes begin with one lexeme at most that is taken as long as it goes
pub lexeme_one : (lexeme other : Lexeme) (r s : List ℕ) → IsLexeme lexeme → IsLexeme other → Follows lexeme r
    → Follows other s → text_before lexeme r ≡ text_before other s → (lexeme ≡ other) × (r ≡ s)
lexeme_one (name a) (name b) r s is has f g e =
    let run = run_one (λ c. is_name_byte c ≡ true) a b r s (long_name_all a is) (long_name_all b has) f g e in
    (ap name run.0, run.1)
lexeme_one (name a) (number b) r s is has f g e =
    let both = begin_alike (name a) (number b) r s is has e in absurd (letter_no_digit both.0 both.1 both.2)
lexeme_one (name a) (byte b) r s is has f g e =
    let both = begin_alike (name a) (byte b) r s is has e in absurd (letter_no_symbol both.0 both.1 both.2)
lexeme_one (number a) (name b) r s is has f g e =
    let both = begin_alike (number a) (name b) r s is has e in absurd (letter_no_digit both.0 both.2 both.1)
lexeme_one (number a) (number b) r s is has f g e =
    let run = run_one IsDigit a b r s is.1 has.1 f g e in (ap number run.0, run.1)
lexeme_one (number a) (byte b) r s is has f g e =
    let both = begin_alike (number a) (byte b) r s is has e in absurd (digit_no_symbol both.0 both.1 both.2)
lexeme_one (byte a) (name b) r s is has f g e =
    let both = begin_alike (byte a) (name b) r s is has e in absurd (letter_no_symbol both.0 both.2 both.1)
lexeme_one (byte a) (number b) r s is has f g e =
    let both = begin_alike (byte a) (number b) r s is has e in absurd (digit_no_symbol both.0 both.2 both.1)
lexeme_one (byte a) (byte b) r s is has f g e = (cc, cc)

-- these bytes do not begin with a lexeme
abbrev BeginWithNone : List ℕ → Type 0
BeginWithNone bytes = (lexeme : Lexeme) (rest : List ℕ) → IsLexeme lexeme → bytes ≡ text_before lexeme rest → ⊥

-- where no bytes are left, no lexeme begins
none_at_end : BeginWithNone []
none_at_end lexeme rest is e = let first = first_of lexeme rest is in nil_is_no_cons (e ∙ first.2)

-- a byte that begins no lexeme is not the first byte of one
begins_not : (lexeme : Lexeme) (b : ℕ) → BeginsNoLexeme b → Begins lexeme b → ⊥
begins_not (name _) b none begins = both_ways (is_ascii_alphabetic b) none.letter begins
begins_not (number _) b none begins = none.digit begins
begins_not (byte _) b none begins = both_ways (is_symbol_byte b) none.symbol begins

-- bytes whose first byte begins no lexeme do not begin with one
none_at : (b : ℕ) (more : List ℕ) → BeginsNoLexeme b → BeginWithNone (b ∷ more)
none_at b more none lexeme rest is e =
    let first = first_of lexeme rest is in
    let same : first.0 ≡ b = first_byte (sym first.2 ∙ sym e) in
    begins_not lexeme b none (rw same at first.3)

-- bytes are cut in one way into lexemes and other bytes that no lexeme begins
pub lexemes_one : (lexemes others : List Lexeme) (r s : List ℕ) → AreLexemesBefore lexemes r → AreLexemesBefore others s
    → BeginWithNone r → BeginWithNone s
    → texts_before lexemes r ≡ texts_before others s → (lexemes ≡ others) × (r ≡ s)
lexemes_one [] [] r s a b u v e = (refl, e)
lexemes_one [] (other ∷ others) r s a b u v e = absurd (u other (texts_before others s) b.0 e)
lexemes_one (lexeme ∷ lexemes) [] r s a b u v e = absurd (v lexeme (texts_before lexemes r) a.0 (sym e))
lexemes_one (lexeme ∷ lexemes) (other ∷ others) r s a b u v e =
    let first = lexeme_one lexeme other (texts_before lexemes r) (texts_before others s) a.0 b.0 a.1 b.1 e in
    let more = lexemes_one lexemes others r s a.2 b.2 u v first.1 in
    (ap₂ (λ (x : Lexeme) (xs : List Lexeme). x ∷ xs) first.0 more.0, more.1)

-- lexemes that are taken as long as they go are told by their texts
pub told_by_texts : (lexemes others : List Lexeme) → AreLexemes lexemes → AreLexemes others
    → texts lexemes ≡ texts others → lexemes ≡ others
told_by_texts lexemes others a b e = (lexemes_one lexemes others [] [] a b none_at_end none_at_end e).0

-- a word is stuck at one place at most
pub stuck_one : (word : List ℕ) (place other : ℕ) → IsStuckAt word place → IsStuckAt word other → place ≡ other
stuck_one word place other s t =
    let same =
    lexemes_one s.before t.before (s.first ∷ s.rest) (t.first ∷ t.rest) s.lexemes t.lexemes
    (none_at s.first s.rest s.none) (none_at t.first t.rest t.none) (sym s.reads ∙ t.reads) in
    s.at ∙ ap (λ x. length (texts x)) same.0 ∙ sym t.at

-- a word that has lexemes is stuck nowhere
pub cut_not_stuck : (word : List ℕ) (lexemes : List Lexeme) (place : ℕ) → AreLexemesOf word lexemes
    → IsStuckAt word place → ⊥
cut_not_stuck word lexemes place cut s =
    let same =
    lexemes_one lexemes s.before [] (s.first ∷ s.rest) cut.each s.lexemes none_at_end
    (none_at s.first s.rest s.none) (cut.whole ∙ s.reads) in
    nil_is_no_cons same.1

-- a name is a name of any length that has at most 32 bytes
pub short_name : (text : List ℕ) → IsName text ↔ (IsLongName text × (length text ≤ 32))
short_name [] = ((λ named. let some = named.some in absurd (omega arith)), (λ both. absurd both.0))
short_name (first ∷ rest) = (
  (λ named. ((named.letter, All-tail (λ b. is_name_byte b ≡ true) first rest named.bytes), named.short)),
  (λ both. record {
    some = omega arith;
    short = both.1;
    letter = both.0.0;
    bytes = long_name_all (first ∷ rest) both.0;
  }),
)
