-- Why a command stops where a file gives no tables or no contract.
use Rattle.std.proofs.Common.{◌≡◌, ◌∙◌, Err, List, Ok, Option, Result, refl, ℕ}
use Rattle.std.specs.Option.{IfSome}
use Rattle.std.specs.Result.{IsErrAnd, IsOkUnless}
use Rattle.halo_table.specs.DecrementTable.{TableFile}
use Rattle.halo_table.specs.declared.fault.TableFault.{TableFault}
use Rattle.halo_table.specs.declared.fault.TablesError.{TablesError}
use Rattle.halo_table.specs.declared.fault.TablesError.TheVariants as tables
use Rattle.halo_contract.specs.declared.contract.Contract.{Contract}
use Rattle.halo_parse.specs.declared.fault.ContractError.{ContractError}
use Rattle.halo_parse.specs.declared.fault.ContractError.TheVariants as contract
use Rattle.halo_parse.specs.declared.fault.ContractFault.{ContractFault}
use Rattle.halo_top.specs.Input.{HasContractFault, LoadsContract}
use Rattle.halo_top.specs.Refusal.{stop_of_contract, stop_of_tables}
use Rattle.halo_top.specs.declared.refusal.Stop.{Stop}
use Rattle.halo_top.specs.declared.refusal.Stop.TheVariants as stop

-- an error that is known to be one thing is another that this is
pub stops-with : {X : Type 0} (r : Result X Stop) (s t : Stop)
    → IsErrAnd r (λ why. why ≡ s) → s ≡ t → IsOkUnless r t
stops-with (Ok x) s t is same = absurd is
stops-with (Err why) s t is same = is ∙ same

-- without a fault only memory can be wanting
pub tables-want-memory : (e : TablesError)
    → ((fault : TableFault) → e ≡ tables.Fault fault → ⊥) → stop_of_tables e ≡ stop.Memory
tables-want-memory (tables.Fault fault) fine = absurd (fine fault refl)
tables-want-memory tables.Memory fine = refl

pub contract-wants-memory : (e : ContractError)
    → ((fault : ContractFault) → e ≡ contract.Fault fault → ⊥) → stop_of_contract e ≡ stop.Memory
contract-wants-memory (contract.Fault fault) fine = absurd (fine fault refl)
contract-wants-memory contract.Memory fine = refl

-- a contract file that gives no contract has the fault that is told, or memory was wanting
pub no-contract : (file : TableFile) (told : Option (List ℕ)) (rose : Type 0) (e : ContractError)
    (r : Result Contract Stop) → IsErrAnd r (λ why. why ≡ stop_of_contract e)
    → ((fault : ContractFault) → e ≡ contract.Fault fault → IfSome told (λ all. HasContractFault file all fault))
    → LoadsContract file told rose r
no-contract file told rose e (Ok x) is wrong = absurd is
no-contract file told rose (contract.Fault fault) (Err why) is wrong = rw is (wrong fault refl)
no-contract file told rose contract.Memory (Err why) is wrong = rw is tt
