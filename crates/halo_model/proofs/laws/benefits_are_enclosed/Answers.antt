use Rattle.halo_model.proofs.Benefits.{no-benefits, one-benefit-more, premium-of-benefits, reserve-with-premium, reserve-without-premium}
use Rattle.halo_model.proofs.laws.benefits_are_enclosed.Goals as goal

pub returns-clause-none : goal.returns-clause-none
returns-clause-none c = no-benefits

pub returns-clause-more : goal.returns-clause-more
returns-clause-more c = one-benefit-more

pub returns-clause-premium : goal.returns-clause-premium
returns-clause-premium c = premium-of-benefits

pub returns-clause-reserve : goal.returns-clause-reserve
returns-clause-reserve c = reserve-with-premium

pub returns-clause-reserve_alone : goal.returns-clause-reserve_alone
returns-clause-reserve_alone c = reserve-without-premium
