-- A value report, and that its lines enclose what a contract is worth.
use Rattle.std.specs.Prelude.{List, Option, None, Some, ⊤}
use Rattle.std.specs.List.{AllZip}
use Rattle.halo_sums.specs.Masks.{has_bit}
use Rattle.halo_num.specs.declared.nano.Nano.{Nano}
use Rattle.halo_status.specs.Pay.{PlainPay}
use Rattle.halo_status.specs.Tree.{Tree}
use Rattle.halo_table.specs.DecrementTable.{TableFile}
use Rattle.halo_table.specs.Sound.{IsSound}
use Rattle.halo_contract.specs.PlainContract.{PlainContract}
use Rattle.halo_contract.specs.ValidContract.{IsValidContract}
use Rattle.halo_contract.specs.declared.contract.ReserveLine.{ReserveLine}
use Rattle.halo_model.specs.Basis.{Basis}
use Rattle.halo_model.specs.ContractBasis.{contract_basis, premium_status}
use Rattle.halo_model.specs.Line.{IsPremiumLine, IsReserveLine, IsTotalLine}
use Rattle.halo_lines.specs.declared.report.ValueReport.{ValueReport}
use Rattle.halo_lines.specs.PayLines.{ArePayLines}

-- a value report as plain data: two ends for each pay, for all pays together, for the premium, if
-- there is one, and for each reserve
pub record PlainReport : Type 0 where
  pub pays : List Nano
  pub total : Nano
  pub premium : Option Nano
  pub reserves : List Nano

-- a report in memory as plain data
abbrev pub report_of : ValueReport → PlainReport
report_of report = record {
  pays = report.pays.items;
  total = report.total;
  premium = report.premium;
  reserves = report.reserves.items;
}

-- the premium has its line exactly where one is asked for
abbrev pub IsPremiumLineOf : Basis → List PlainPay → Option Tree → Option Nano → Type 0
IsPremiumLineOf b pays None None = ⊤
IsPremiumLineOf b pays (Some status) (Some ends) = IsPremiumLine b pays status ends
IsPremiumLineOf b pays _ _ = ⊥

-- each reserve has its line, at its time with the lives of its set alive
abbrev pub AreReserveLines : Basis → List PlainPay → Option Tree → List ReserveLine → List Nano
    → Type 0
AreReserveLines b pays premium reserves lines =
    AllZip (λ reserve. IsReserveLine b pays premium reserve.time (has_bit reserve.alive))
    reserves lines

-- each line of a report encloses what the contract says that it is, and there is no other line
pub record EnclosesContract (tables : TableFile) (contract : PlainContract) (report : PlainReport)
    : Type 0 where
  pub pays : ArePayLines (contract_basis tables contract) contract.pays report.pays
  pub total : IsTotalLine (contract_basis tables contract) contract.pays report.total
  pub premium : IsPremiumLineOf (contract_basis tables contract) contract.pays
      (premium_status contract) report.premium
  pub reserves : AreReserveLines (contract_basis tables contract) contract.pays
      (premium_status contract) contract.reserves report.reserves

-- each contract that can be valued has a report that encloses it
abbrev pub ContractsHaveReports : Type 0
ContractsHaveReports = (tables : TableFile) → IsSound tables
    → (contract : PlainContract) → IsValidContract tables contract
    → (report : PlainReport) × EnclosesContract tables contract report
