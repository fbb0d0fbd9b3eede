-- The token that comes next in a word.
use Rattle.std.proofs.Common.{◌≡◌, ◌⊎◌, ℕ, ◌+◌, ◌<◌, true, List, [], ◌∷◌, ap, arith, drop, get_or, inl, inr, length, refl, subst, sym, ◌∙◌}
use Rattle.std.specs.Prelude.{slice_range}
use Rattle.std.specs.Char.{is_ascii_alphabetic, is_ascii_digit}
use Rattle.std.proofs.lemmas.Bool.{both_ways, cases_Bool}
use Rattle.std.proofs.lemmas.Bool.Decides.{nat_tests}
use Rattle.std.proofs.lemmas.List.{append-nil}
use Rattle.std.proofs.lemmas.List.Edits.{between_none, length-between}
use Rattle.std.proofs.lemmas.List.Elements.{All-tail}
use Rattle.halo_text.specs.Name.{is_name_byte}
use Rattle.halo_text.specs.Number.{IsDigit}
use Rattle.halo_lex.specs.Cut.{BeginsNoLexeme, IsNextToken}
use Rattle.halo_lex.specs.Lexeme.{BeginsWithout, IsLongName, is_symbol_byte}
use Rattle.halo_lex.specs.Run.{IsRun}
use Rattle.halo_lex.specs.declared.token.Token.{Token}
use Rattle.halo_lex.specs.declared.token.TokenKind.TheVariants as kind
use Rattle.halo_lex.proofs.Lexing.{letter_in_name}
use Rattle.halo_lex.proofs.Runs.{part-cons, run_all, run_some, run_stops, some_run}

-- a digit passes the test for digits
pub digit_passes : (b : ℕ) → IsDigit b → is_ascii_digit b ≡ true
digit_passes b digit = grind (arith, nat_tests)

-- what passes the test for digits is one
passing_digit : (b : ℕ) → is_ascii_digit b ≡ true → IsDigit b
passing_digit b passes = grind (arith, nat_tests)

-- the name that begins at a letter
pub name_next : (word : List ℕ) (from to : ℕ) → from < length word → is_ascii_alphabetic (get_or word from 0) ≡ true
    → IsRun is_name_byte word from to
    → IsNextToken word from (record { kind = kind.Name; from = from; to = to })
name_next word from to lt letter run =
    let some = run_some is_name_byte word from to run lt (letter_in_name (get_or word from 0) letter) in
    let parts = part-cons word from to some lt in
    let all = run_all is_name_byte word from to run in
    record {
      from = refl;
      some = some;
      within = run.within;
      part = append-nil (slice_range word from to);
      lexeme =
          subst IsLongName (sym parts) (
            letter,
            All-tail (λ b. is_name_byte b ≡ true) (get_or word from 0)
                (slice_range word (from + 1) to) (rw parts at all),
          );
      follows = run_stops is_name_byte word from to run;
    }

-- the number that begins at a digit
pub number_next : (word : List ℕ) (from to : ℕ) → from < length word → is_ascii_digit (get_or word from 0) ≡ true
    → IsRun is_ascii_digit word from to
    → IsNextToken word from (record { kind = kind.Number; from = from; to = to })
number_next word from to lt digit run =
    let some = run_some is_ascii_digit word from to run lt digit in
    let count = length-between word from to run.within in
    let all = run_all is_ascii_digit word from to run in
    record {
      from = refl;
      some = some;
      within = run.within;
      part = append-nil (slice_range word from to);
      lexeme = (omega arith, λ k d lt. passing_digit _ (all k d lt));
      follows = stops (drop to word) (run_stops is_ascii_digit word from to run);
    }
  where
    stops : (rest : List ℕ) → BeginsWithout (λ b. is_ascii_digit b ≡ true) rest → BeginsWithout IsDigit rest
    stops [] h = tt
    stops (b ∷ rest) h = λ d. h (digit_passes b d)

-- the byte that stands by itself
pub byte_next : (word : List ℕ) (from : ℕ) → from < length word → is_symbol_byte (get_or word from 0) ≡ true
    → IsNextToken word from (record { kind = kind.Byte (get_or word from 0); from = from; to = from + 1 })
byte_next word from lt symbol =
    let none : slice_range word (from + 1) (from + 1) ≡ [] = between_none word (from + 1) in
    record {
      from = refl;
      some = omega arith;
      within = omega arith;
      part = sym (part-cons word from (from + 1) (omega arith) lt ∙ ap (λ (xs : List ℕ). get_or word from 0 ∷ xs) none);
      lexeme = symbol;
      follows = tt;
    }

-- a byte begins a token, or no lexeme
pub next_or_none : (word : List ℕ) (place : ℕ) → place < length word
    → ((token : Token) × IsNextToken word place token) ⊎ BeginsNoLexeme (get_or word place 0)
next_or_none word place lt = elim (cases_Bool (is_ascii_alphabetic (get_or word place 0))) [
  | inl letter ↦ let run =
      some_run is_name_byte word place (omega arith) in inl (_, name_next word place run.0 lt letter run.1)
  | inr no_letter ↦ elim (cases_Bool (is_ascii_digit (get_or word place 0))) [
    | inl digit ↦ let run =
        some_run is_ascii_digit word place (omega arith) in inl (_, number_next word place run.0 lt digit run.1)
    | inr no_digit ↦ elim (cases_Bool (is_symbol_byte (get_or word place 0))) [
      | inl symbol ↦ inl (_, byte_next word place lt symbol)
      | inr no_symbol ↦
          inr (record {
            letter = no_letter;
            digit =
                λ d. both_ways (is_ascii_digit (get_or word place 0)) no_digit (digit_passes (get_or word place 0) d);
            symbol =
                no_symbol;
          })
    ]
  ]
]
