-- What the functions answer that check a line.
use Rattle.std.specs.Prelude.{◌<◌, ⊤}
use Rattle.halo_table.specs.DecrementTable.{TableFile}
use Rattle.halo_syntax.specs.Line.{Line}
use Rattle.halo_check.specs.Checks.{FailsFirst, Passes, place_of_check}
use Rattle.halo_check.specs.Draft.{Draft}
use Rattle.halo_check.specs.declared.error.LineError.{LineError}
use Rattle.halo_check.specs.declared.error.LineError.TheVariants as error
use Rattle.halo_check.specs.declared.fault.ContractKind.{ContractKind}

-- a line passes the checks before this one
abbrev pub PassesBefore : TableFile → Draft → Line → ContractKind → Type 0
PassesBefore tables d l k = (j : ContractKind)
    → place_of_check j < place_of_check k → Passes tables d l j

-- an error tells the first check that a line does not pass; want of memory tells nothing
abbrev pub FailsWith : TableFile → Draft → Line → LineError → Type 0
FailsWith tables d l (error.Fault k) = FailsFirst tables d l k
FailsWith tables d l error.Memory = ⊤
