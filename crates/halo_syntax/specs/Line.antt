-- The six forms of a line, as they are written: names and numbers as the bytes that write them.
use Rattle.std.specs.Prelude.{ℕ, List, [], ◌∷◌, ◌++◌, codes}
use Rattle.halo_symbol.specs.Tree.{Body}
use Rattle.halo_symbol.specs.Symbol.{Symbol}
use Rattle.halo_symbol.specs.Bytes.{body_bytes, symbol_bytes}
use Rattle.halo_contract.specs.declared.ties.Ties.{Ties}
use Rattle.halo_contract.specs.declared.ties.Ties.TheVariants as rule

-- a fraction P/Q of interest from a year on
pub record LaterRate : Type 0 where
  pub year : List ℕ
  pub p : List ℕ
  pub q : List ℕ

-- one line
pub data Line : Type 0 where
  -- `interest P/Q`, and any number of pairs `YEAR P/Q`
  interest : List ℕ → List ℕ → List LaterRate → Line
  -- `life NAME TABLE AGE`
  life : List ℕ → List ℕ → List ℕ → Line
  -- `ties RULE`
  ties : Ties → Line
  -- `pay AMOUNT SYMBOL`
  pay : List ℕ → Symbol → Line
  -- `premium STATUS`
  premium : Body → Line
  -- `reserve T NAME ..`
  reserve : List ℕ → List (List ℕ) → Line

-- the word `P/Q`
abbrev pub fraction_word : List ℕ → List ℕ → List ℕ
fraction_word p q = p ++ codes "/" ++ q

-- the words of the pairs behind the first fraction
abbrev pub rate_words : List LaterRate → List (List ℕ)
rate_words [] = []
rate_words (rate ∷ rates) = rate.year ∷ fraction_word rate.p rate.q ∷ rate_words rates

-- the word of a rule for ties
abbrev pub rule_word : Ties → List ℕ
rule_word rule.Declared = codes "declared"
rule_word rule.Even = codes "even"

-- the words of a line
abbrev pub line_words : Line → List (List ℕ)
line_words (interest p q rates) = codes "interest" ∷ fraction_word p q ∷ rate_words rates
line_words (life name table age) = codes "life" ∷ name ∷ table ∷ age ∷ []
line_words (ties r) = codes "ties" ∷ rule_word r ∷ []
line_words (pay amount symbol) = codes "pay" ∷ amount ∷ symbol_bytes symbol ∷ []
line_words (premium status) = codes "premium" ∷ body_bytes status ∷ []
line_words (reserve time names) = codes "reserve" ∷ time ∷ names
