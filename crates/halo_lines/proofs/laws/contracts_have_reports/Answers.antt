use Rattle.halo_lines.proofs.ContractReports.{contracts-have-reports}
use Rattle.halo_lines.proofs.laws.contracts_have_reports.Goals as goal

pub returns : goal.returns
returns c = contracts-have-reports
