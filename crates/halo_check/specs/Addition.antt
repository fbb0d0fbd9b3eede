-- What a line adds to a contract, and what holds of the lines so far.
use Rattle.std.specs.Prelude.{◌≡◌, ◌≤◌, ◌^◌, ◌∷◌, All, length, map, ⊤}
use Rattle.halo_text.specs.Number.{number}
use Rattle.halo_status.specs.Naming.{NamesLivesBelow}
use Rattle.halo_status.specs.Pay.{pay_of}
use Rattle.halo_status.specs.StatusTree.{tree_of}
use Rattle.halo_table.specs.DecrementTable.{TableFile, names_of, HasRow}
use Rattle.halo_table.specs.declared.lives.Life.{Life}
use Rattle.halo_contract.specs.Premium.{premium_pay}
use Rattle.halo_symbol.specs.StatusOf.{tree_of_body}
use Rattle.halo_check.specs.Draft.{Draft, mask_of_names, pay_written, place_of, rate_from}
use Rattle.halo_contract.specs.PlainContract.{amount_of_all, life_names}
use Rattle.halo_syntax.specs.Line as line
use Rattle.halo_syntax.specs.Line.{Line}
use Rattle.halo_check.specs.declared.addition.Addition.{Addition}
use Rattle.halo_check.specs.declared.addition.Addition.TheVariants as addition
use Rattle.halo_check.specs.declared.limits.TheConstants.{GREATEST_AMOUNT, MOST_LIVES}

-- this is what a line adds to some lines
abbrev pub Adds : TableFile → Draft → Line → Addition → Type 0
Adds tables d (line.interest p q rates) (addition.Interest interest) =
    interest ≡ record { year = 0; p = number p; q = number q } ∷ map rate_from rates
Adds tables d (line.life name table age) (addition.Life life) =
    let place = place_of (names_of tables.tables) table in
    let declared : Life = record { table = place; age = number age } in
    life ≡ record { name = name; life = declared }
Adds tables d (line.ties rule) (addition.Ties ties) = ties ≡ rule
Adds tables d (line.pay amount s) (addition.Pay pay) =
    pay_of pay ≡ pay_written (life_names d.lives) tables.causes amount s
Adds tables d (line.premium status) (addition.Premium pay) =
    pay_of pay ≡ premium_pay (tree_of_body (place_of (life_names d.lives)) status)
Adds tables d (line.reserve time names) (addition.Reserve reserve) =
    reserve ≡ record { time = number time; alive = mask_of_names (life_names d.lives) names }
Adds tables d _ _ = ⊥

-- what holds of the lines so far, each of which passed the checks: there are at most 12 lives, each
-- has a row in its table, and the amounts add up to at most 10^10
pub record IsKept (tables : TableFile) (d : Draft) : Type 0 where
  pub few_lives : length d.lives ≤ MOST_LIVES
  pub rows : All (λ declared. HasRow tables declared.life.table declared.life.age) d.lives
  pub amounts : amount_of_all d.pays ≤ GREATEST_AMOUNT

-- the lives that the status of a pay or a premium names have numbers below 16
abbrev pub NamesLowLives : Addition → Type 0
NamesLowLives (addition.Pay pay) = NamesLivesBelow 16 (tree_of pay.body)
NamesLowLives (addition.Premium pay) = NamesLivesBelow 16 (tree_of pay.body)
NamesLowLives _ = ⊤
