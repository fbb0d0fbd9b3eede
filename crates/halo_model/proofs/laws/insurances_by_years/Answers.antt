use Rattle.halo_model.proofs.ByYears.{insurance-by-years, ties-do-not-matter}
use Rattle.halo_model.proofs.FromAnnuity.{insurance-from-annuity}
use Rattle.halo_model.proofs.laws.insurances_by_years.Goals as goal

pub returns-clause-years : goal.returns-clause-years
returns-clause-years c = insurance-by-years

pub returns-clause-annuity : goal.returns-clause-annuity
returns-clause-annuity c = insurance-from-annuity

pub returns-clause-ties : goal.returns-clause-ties
returns-clause-ties c = ties-do-not-matter
