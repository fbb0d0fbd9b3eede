-- What the parts of a line have to be, and what the words of a line say.
use Rattle.std.specs.Prelude.{◌≡◌, ℕ, List, All, ⊤}
use Rattle.halo_text.specs.Number.{IsNumber}
use Rattle.halo_lex.specs.Lexeme.{IsLongName}
use Rattle.halo_symbol.specs.Proper.{IsPlainName, IsProperBody, IsProperSymbol}
use Rattle.halo_syntax.specs.Line.{Line, interest, life, ties, pay, premium, reserve, LaterRate, line_words}

-- a year and a fraction that are numbers
pub record IsProperRate (rate : LaterRate) : Type 0 where
  pub year : IsNumber rate.year
  pub p : IsNumber rate.p
  pub q : IsNumber rate.q

-- a line whose names are names and whose numbers are numbers, of any length; no life is declared as
-- `bar`
abbrev pub IsProperLine : Line → Type 0
IsProperLine (interest p q rates) = IsNumber p × IsNumber q × All IsProperRate rates
IsProperLine (life name table age) = IsPlainName name × IsLongName table × IsNumber age
IsProperLine (ties r) = ⊤
IsProperLine (pay amount symbol) = IsNumber amount × IsProperSymbol symbol
IsProperLine (premium status) = IsProperBody status
IsProperLine (reserve time names) = IsNumber time × All IsLongName names

-- these words are this line, all of them
pub record SpellsLine (words : List (List ℕ)) (line : Line) : Type 0 where
  pub proper : IsProperLine line
  pub words_are : words ≡ line_words line
