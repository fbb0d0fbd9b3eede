-- The text of the pays of a contract, each with what is told of it.
use Rattle.std.specs.Prelude.{ℕ, suc, List, [], ◌∷◌, ◌++◌, codes}
use Rattle.std.specs.Fmt.{decimal}
use Rattle.halo_status.specs.Pay.{PlainPay}
use Rattle.halo_spell.specs.ContractText.{pay_text}

-- the line of a pay: its number and its symbol
abbrev pub symbol_line : List (List ℕ) → List (List ℕ) → ℕ → PlainPay → List ℕ
symbol_line lives causes number pay =
    codes "pay " ++ decimal number ++ codes " " ++ pay_text lives causes pay ++ codes "\n"

-- the lines of some pays, the first of which has this place: the line of each, and behind it the
-- lines that belong to its place
abbrev pub pays_lines : List (List ℕ) → List (List ℕ) → (ℕ → List ℕ) → ℕ → List PlainPay → List ℕ
pays_lines lives causes lines_at place [] = []
pays_lines lives causes lines_at place (pay ∷ pays) =
    symbol_line lives causes (suc place) pay ++ lines_at place
    ++ pays_lines lives causes lines_at (suc place) pays
