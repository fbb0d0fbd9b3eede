use Rattle.halo_model.proofs.WorkedRows.{annuity_rows, cause_rows, even_rows, insurance_rows, interest_rows, premium_rows, varying_rows}
use Rattle.halo_model.proofs.rows.worked_rows.Goals as goal

pub returns : goal.returns
returns c = record {
  annuities = annuity_rows;
  insurances = insurance_rows;
  varying = varying_rows;
  causes = cause_rows;
  even = even_rows;
  interest = interest_rows;
  premiums = premium_rows;
}
