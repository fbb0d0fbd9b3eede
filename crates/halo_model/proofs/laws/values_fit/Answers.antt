use Rattle.halo_model.proofs.Sizes.{benefits-fit, due-fits}
use Rattle.halo_model.proofs.laws.values_fit.Goals as goal

pub returns-clause-benefits : goal.returns-clause-benefits
returns-clause-benefits c = benefits-fit

pub returns-clause-due : goal.returns-clause-due
returns-clause-due c = due-fits
