-- The contract file of a sample.
use Rattle.std.specs.Prelude.{ℕ, zero, suc, ◌+◌, List, [], ◌∷◌, ◌++◌, codes, get_or}
use Rattle.std.specs.Fmt.{decimal}
use Rattle.halo_sample.specs.declared.contract.TheConstants.{AGES, AMOUNTS, LIVES, PAYS, RATES, SYMBOLS, YOUNGEST}
use Rattle.halo_sample.specs.declared.tables.TheConstants.{TABLES}
use Rattle.halo_sample.specs.Generator.{drawn, drawn_second, next_state, state_behind_pairs, state_behind_two}

-- the line of the interest
abbrev pub interest_line : ℕ → List ℕ
interest_line s = codes "interest " ++ decimal (1 + drawn RATES s) ++ codes "/100\n"

-- the line of the life with this number: its table is drawn first, and then its age
abbrev pub life_line : ℕ → ℕ → List ℕ
life_line number s =
    codes "life p" ++ decimal number ++ codes " t" ++ decimal (drawn TABLES s)
    ++ codes " " ++ decimal (YOUNGEST + drawn_second AGES s) ++ codes "\n"

-- the symbols of pays, and the one with this number
abbrev pub symbols : List (List ℕ)
symbols =
    codes "ad[bar(p1:p2:p3)]"
    ∷ codes "A[p1^1:p2:p3]"
    ∷ codes "a[p1:p2|p3:p4]"
    ∷ codes "A[4/(p1:p2:p3:p4:p5:p6:p7:p8)]"
    ∷ codes "ad[[3]/(p1:p2:p3:p4:p5:p6:p7:p8)]"
    ∷ codes "A{death}[bar(p5:p6)]"
    ∷ codes "D20A[p7:p8:<20>]"
    ∷ codes "10|Ia[2/(p1:p4:p7)]"
    ∷ []

unfoldable pub symbol_text : ℕ → List ℕ
symbol_text choice = get_or symbols choice []

-- the line of a pay: its amount is drawn first, and then its symbol
abbrev pub pay_line : ℕ → List ℕ
pay_line s =
    codes "pay " ++ decimal (1 + drawn AMOUNTS s) ++ codes " "
    ++ symbol_text (drawn_second SYMBOLS s) ++ codes "\n"

-- so many lines from a number on, for each of which two numbers are drawn
unfoldable pub lines_from : (ℕ → ℕ → List ℕ) → ℕ → ℕ → ℕ → List ℕ
lines_from line zero number s = []
lines_from line (suc left) number s =
    line number s ++ lines_from line left (suc number) (state_behind_two s)

-- the lines of the premium and of the reserves
abbrev pub last_lines : List ℕ
last_lines =
    codes "premium bar(p1:p2):<30>\n"
    ++ codes "reserve 5 p1 p2 p3 p4 p5 p6 p7 p8\n"
    ++ codes "reserve 10 p2 p3 p4\n"

-- the contract file
abbrev pub contract_text : ℕ → List ℕ
contract_text s =
    interest_line s
    ++ lines_from life_line LIVES 1 (next_state s)
    ++ lines_from (λ _. pay_line) PAYS 1 (state_behind_pairs LIVES (next_state s))
    ++ last_lines
