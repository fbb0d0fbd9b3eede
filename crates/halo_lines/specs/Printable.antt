-- Reports whose ends can be printed.
use Rattle.std.specs.Prelude.{All, IfSome}
use Rattle.halo_num.specs.Ends.{IsSized}
use Rattle.halo_num.specs.declared.nano.Nano.{Nano}
use Rattle.halo_lines.specs.Report.{PlainReport}
use Rattle.halo_lines.specs.declared.report.TheConstants.{LARGEST_PRINTED}

-- the ends can be printed
pub record IsPrintable (ends : Nano) : Type 0 where
  pub lo : IsSized ends.lo LARGEST_PRINTED
  pub hi : IsSized ends.hi LARGEST_PRINTED

-- all ends of a report can be printed
pub record IsPrintableReport (report : PlainReport) : Type 0 where
  pub pays : All IsPrintable report.pays
  pub total : IsPrintable report.total
  pub premium : IfSome report.premium IsPrintable
  pub reserves : All IsPrintable report.reserves
