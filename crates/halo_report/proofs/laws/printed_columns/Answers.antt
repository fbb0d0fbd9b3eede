use Rattle.halo_report.proofs.PrintedColumns.{columns-are-printable, printed-entries-enclose}
use Rattle.halo_report.proofs.laws.printed_columns.Goals as goal

pub returns-clause-printable : goal.returns-clause-printable
returns-clause-printable c = columns-are-printable

pub returns-clause-enclose : goal.returns-clause-enclose
returns-clause-enclose c = printed-entries-enclose
