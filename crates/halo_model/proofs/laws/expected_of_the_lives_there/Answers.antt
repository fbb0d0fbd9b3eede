use Rattle.halo_model.proofs.BySets.{expected-by-sets}
use Rattle.halo_model.proofs.Leaving.{expected-by-coefficients}
use Rattle.halo_model.proofs.laws.expected_of_the_lives_there.Goals as goal

pub returns-clause-by_sets : goal.returns-clause-by_sets
returns-clause-by_sets c = expected-by-sets

pub returns-clause-by_coefficients : goal.returns-clause-by_coefficients
returns-clause-by_coefficients c = expected-by-coefficients
