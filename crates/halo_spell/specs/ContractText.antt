-- The canonical text of a contract: its lines in the order of the forms, with one space between the
-- words of a line, and a
-- line feed behind each line.
use Rattle.std.specs.Prelude.{ℕ, List, [], ◌∷◌, ◌++◌, codes, flat_map, map}
use Rattle.std.specs.List.{join_with_byte}
use Rattle.std.specs.Fmt.{decimal}
use Rattle.std.specs.Option.{option_to_list}
use Rattle.halo_interest.specs.declared.rate.Rate.{Rate}
use Rattle.halo_status.specs.Pay.{PlainPay}
use Rattle.halo_symbol.specs.Bytes.{symbol_bytes}
use Rattle.halo_table.specs.DecrementTable.{TableFile, name_of}
use Rattle.halo_contract.specs.PlainContract.{PlainContract, life_names}
use Rattle.halo_syntax.specs.Line as line
use Rattle.halo_syntax.specs.Line.{Line, LaterRate, line_words}
use Rattle.halo_contract.specs.declared.contract.LifeLine.{LifeLine}
use Rattle.halo_contract.specs.declared.contract.ReserveLine.{ReserveLine}
use Rattle.halo_contract.specs.declared.ties.Ties.{Ties}
use Rattle.halo_contract.specs.declared.ties.Ties.TheVariants as rule
use Rattle.halo_spell.specs.Canonical.{canonical_body, canonical_symbol, names_in}

-- the canonical symbol of a pay, where the lives and the causes have these names
abbrev pub pay_text : List (List ℕ) → List (List ℕ) → PlainPay → List ℕ
pay_text lives causes pay = symbol_bytes (canonical_symbol lives causes pay)

-- a fraction from its year on
abbrev pub canonical_rate : Rate → LaterRate
canonical_rate rate = record { year = decimal rate.year; p = decimal rate.p; q = decimal rate.q }

-- the line of an interest, which has a first fraction
abbrev pub interest_lines : List Rate → List Line
interest_lines [] = []
interest_lines (first ∷ later) =
    line.interest (decimal first.p) (decimal first.q) (map canonical_rate later) ∷ []

-- the line of a life
abbrev pub life_line : TableFile → LifeLine → Line
life_line tables declared =
    line.life declared.name (name_of tables declared.life.table) (decimal declared.life.age)

-- the line of a rule for ties; `declared`, which holds where no line says another, is not written
abbrev pub ties_lines : Ties → List Line
ties_lines rule.Declared = []
ties_lines rule.Even = line.ties rule.Even ∷ []

-- the line of a pay
abbrev pub pay_line : List (List ℕ) → List (List ℕ) → PlainPay → Line
pay_line lives causes pay = line.pay (decimal pay.amount) (canonical_symbol lives causes pay)

-- the line of a premium
abbrev pub premium_line : List (List ℕ) → PlainPay → Line
premium_line lives pay = line.premium (canonical_body lives pay.body)

-- the line of a reserve
abbrev pub reserve_line : List (List ℕ) → ReserveLine → Line
reserve_line lives reserve = line.reserve (decimal reserve.time) (names_in lives reserve.alive)

-- the lines of a contract
abbrev pub canonical_lines : TableFile → PlainContract → List Line
canonical_lines tables c =
    interest_lines c.interest
    ++ map (life_line tables) c.lives
    ++ ties_lines c.ties
    ++ map (pay_line (life_names c.lives) tables.causes) c.pays
    ++ map (premium_line (life_names c.lives)) (option_to_list c.premium)
    ++ map (reserve_line (life_names c.lives)) c.reserves

-- the text of a line: its words, with a space between each two
abbrev pub line_text : Line → List ℕ
line_text l = join_with_byte 32 (line_words l)

-- the texts of lines, each with a line feed behind it
abbrev pub lines_text : List Line → List ℕ
lines_text lines = flat_map (λ l. line_text l ++ codes "\n") lines

-- the canonical text of a contract
unfoldable pub contract_text : TableFile → PlainContract → List ℕ
contract_text tables contract = lines_text (canonical_lines tables contract)
