-- The reserves so far have their lines, which can be printed.
use Rattle.std.proofs.Common.{Option, map, take}
use Rattle.std.specs.Prelude.{All}
use Rattle.std.specs.List.{AllZip}
use Rattle.halo_status.specs.Pay.{pay_of}
use Rattle.halo_status.specs.Tree.{Tree}
use Rattle.halo_model.specs.Basis.{Basis}
use Rattle.halo_lines.specs.Printable.{IsPrintable}
use Rattle.halo_lines.specs.Report.{AreReserveLines}
use Rattle.halo_value.specs.ContractValues.{HasPremium}
use Rattle.halo_value.specs.PayValues.{AreValuesOf}
use Rattle.halo_value.proofs.lines.reserve_lines.Given as goal

abbrev pub invariant-loop-place : goal.invariant-loop-place
invariant-loop-place g l = record {
  encloses : (b : Basis) (status : Option Tree) → AllZip (AreValuesOf b l.reserves) (map pay_of l.pays) l.values
      → HasPremium b (map pay_of l.pays) status l.reserves l.premium
      → AreReserveLines b (map pay_of l.pays) status (take l.place l.reserves) l.lines.items;
  printable : All IsPrintable l.lines.items;
}
