use Rattle.halo_model.proofs.InsuranceBySets.{end-by-sets, insurance-by-sets, leaving-by-sets}
use Rattle.halo_model.proofs.laws.insurances_by_sets.Goals as goal

pub returns-clause-whole : goal.returns-clause-whole
returns-clause-whole c = insurance-by-sets

pub returns-clause-leaving : goal.returns-clause-leaving
returns-clause-leaving c = leaving-by-sets

pub returns-clause-end : goal.returns-clause-end
returns-clause-end c = end-by-sets
