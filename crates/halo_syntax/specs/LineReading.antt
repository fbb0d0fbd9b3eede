-- What reading a line tells.
use Rattle.std.specs.Prelude.{◌≡◌, ℕ, ◌≤◌, All, List, map, codes}
use Rattle.std.specs.Borrow.{Bor}
use Rattle.halo_text.specs.Number.{IsNumber}
use Rattle.halo_symbol.specs.Nesting.{nest_body}
use Rattle.halo_syntax.specs.Line.{Line, interest, life, ties, pay, premium, reserve, LaterRate, fraction_word, rate_words}
use Rattle.halo_syntax.specs.ProperLine.{IsProperRate, SpellsLine}
use Rattle.halo_syntax.specs.declared.form.Form.{Form}
use Rattle.halo_syntax.specs.declared.form.Form.TheVariants as form

-- the bytes of texts in memory
abbrev pub bytes_of : List (Bor (List ℕ)) → List (List ℕ)
bytes_of texts = map (λ text. text.now) texts

-- the word that a line of a form begins with
abbrev pub keyword : Form → List ℕ
keyword form.Interest = codes "interest"
keyword form.Life = codes "life"
keyword form.Ties = codes "ties"
keyword form.Pay = codes "pay"
keyword form.Premium = codes "premium"
keyword form.Reserve = codes "reserve"

-- how deep round brackets nest in the symbol or the status of a line
abbrev pub nest_line : Line → ℕ
nest_line (interest p q rates) = 0
nest_line (life name table age) = 0
nest_line (ties r) = 0
nest_line (pay amount symbol) = nest_body symbol.body
nest_line (premium status) = nest_body status
nest_line (reserve time names) = 0

-- these words are no line in which round brackets nest at most so deep
unfoldable pub NoLineTo : ℕ → List (List ℕ) → Type 0
NoLineTo depth words = (line : Line) → nest_line line ≤ depth → SpellsLine words line → ⊥

-- these words are no line in which round brackets nest at most 16 deep
abbrev pub NoLine : List (List ℕ) → Type 0
NoLine words = NoLineTo 16 words

-- the word is this fraction of two numbers
pub record IsFraction (word p q : List ℕ) : Type 0 where
  pub p_is : IsNumber p
  pub q_is : IsNumber q
  pub word_is : word ≡ fraction_word p q

-- the word is no fraction of two numbers
abbrev pub NoFraction : List ℕ → Type 0
NoFraction word = (p q : List ℕ) → IsFraction word p q → ⊥

-- two words are this year and this fraction
pub record IsRate (year fraction : List ℕ) (rate : LaterRate) : Type 0 where
  pub proper : IsProperRate rate
  pub year_is : year ≡ rate.year
  pub fraction_is : fraction ≡ fraction_word rate.p rate.q

-- the words are no pairs of a year and a fraction
abbrev pub NoRates : List (List ℕ) → Type 0
NoRates words = (rates : List LaterRate) → All IsProperRate rates → words ≡ rate_words rates → ⊥
