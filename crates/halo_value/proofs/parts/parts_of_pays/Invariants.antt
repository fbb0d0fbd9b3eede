-- The pays so far have their parts.
use Rattle.std.proofs.Common.{map, take}
use Rattle.std.specs.Prelude.{All}
use Rattle.std.specs.List.{AllZip}
use Rattle.halo_status.specs.Pay.{pay_of}
use Rattle.halo_lines.specs.Parts.{ExplainsPay, IsPrintablePart, parts_of}
use Rattle.halo_value.specs.Setting.{basis_of_setting}
use Rattle.halo_value.proofs.parts.parts_of_pays.Given as goal

abbrev pub invariant-loop-pay : goal.invariant-loop-pay
invariant-loop-pay g l = record {
  explains : AllZip (ExplainsPay (basis_of_setting l.setting)) (map pay_of (take l.pay-index l.pays))
      (parts_of l.told.items);
  printable : All (All (IsPrintablePart g.row.N)) (parts_of l.told.items);
}
