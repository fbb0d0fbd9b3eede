use Rattle.halo_model.proofs.Independent.{existence-by-tree, expected-by-tree}
use Rattle.halo_model.proofs.laws.chance_goes_along_the_tree.Goals as goal

pub returns-clause-independent : goal.returns-clause-independent
returns-clause-independent c = existence-by-tree

pub returns-clause-expected : goal.returns-clause-expected
returns-clause-expected c = expected-by-tree
