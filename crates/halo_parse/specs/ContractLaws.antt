-- Laws of the lines of contract files: what they add is valid.
use Rattle.std.specs.Prelude.{ℕ, List, length}
use Rattle.halo_symbol.specs.Symbol.{Symbol}
use Rattle.halo_symbol.specs.Tree.{Body}
use Rattle.halo_table.specs.DecrementTable.{TableFile}
use Rattle.halo_contract.specs.PlainContract.{PlainContract, life_names}
use Rattle.halo_contract.specs.Premium.{premium_pay}
use Rattle.halo_contract.specs.ValidContract.{IsValidAmong, IsValidContract, IsValidPremium}
use Rattle.halo_check.specs.Checks.{PassesAll, status_tree}
use Rattle.halo_check.specs.Draft.{Draft, pay_written}
use Rattle.halo_parse.specs.Faults.{WritesContract}
use Rattle.halo_syntax.specs.Line.{pay, premium}
use Rattle.halo_syntax.specs.ProperLine.{IsProperLine}

-- a pay line that passes all checks adds a pay that is valid with the lives before it
abbrev pub PaysAreValid : Type 0
PaysAreValid = (tables : TableFile) (d : Draft) (amount : List ℕ) (s : Symbol)
    → IsProperLine (pay amount s) → PassesAll tables d (pay amount s)
    → let added = pay_written (life_names d.lives) tables.causes amount s in
    IsValidAmong (length d.lives) (length tables.causes) added

-- a premium line that passes all checks adds a valid premium
abbrev pub PremiumsAreValid : Type 0
PremiumsAreValid = (tables : TableFile) (d : Draft) (body : Body)
    → IsProperLine (premium body) → PassesAll tables d (premium body)
    → IsValidPremium (length d.lives) (length tables.causes) (premium_pay (status_tree d body))

-- a contract that a file writes is valid
abbrev pub ContractsAreValid : Type 0
ContractsAreValid = (tables : TableFile) (bytes : List ℕ) (contract : PlainContract)
    → WritesContract tables bytes contract → IsValidContract tables contract
