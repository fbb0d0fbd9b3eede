use Rattle.halo_model.proofs.Positive.{contracts-have-positive-denominators, denominator-is-positive, premium-is-worth-one}
use Rattle.halo_model.proofs.laws.denominators_are_positive.Goals as goal

pub returns-clause-values : goal.returns-clause-values
returns-clause-values c = denominator-is-positive

pub returns-clause-premium : goal.returns-clause-premium
returns-clause-premium c = premium-is-worth-one

pub returns-clause-contracts : goal.returns-clause-contracts
returns-clause-contracts c = contracts-have-positive-denominators
