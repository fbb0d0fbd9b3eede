-- Laws of the checks.
use Rattle.std.specs.Prelude.{◌≡◌, ◌⊎◌}
use Rattle.halo_table.specs.DecrementTable.{TableFile}
use Rattle.halo_syntax.specs.Line.{Line}
use Rattle.halo_check.specs.Checks.{FailsFirst, PassesAll}
use Rattle.halo_check.specs.Draft.{Draft}
use Rattle.halo_check.specs.declared.fault.ContractKind.{ContractKind}

-- of the checks that a line does not pass one is the first
abbrev pub FirstFailedIsOne : Type 0
FirstFailedIsOne = (tables : TableFile) (d : Draft) (l : Line) (j k : ContractKind)
    → FailsFirst tables d l j → FailsFirst tables d l k → j ≡ k

-- a line passes all checks, or there is a first one that it does not pass
abbrev pub PassesOrFails : Type 0
PassesOrFails = (tables : TableFile) (d : Draft) (l : Line)
    → PassesAll tables d l ⊎ ((k : ContractKind) × FailsFirst tables d l k)
