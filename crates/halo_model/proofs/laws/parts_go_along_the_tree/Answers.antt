use Rattle.halo_model.proofs.PartsByTree.{chance-on-end-by-tree, chance-on-leaving-by-tree, existing-by-tree}
use Rattle.halo_model.proofs.laws.parts_go_along_the_tree.Goals as goal

pub returns-clause-existing : goal.returns-clause-existing
returns-clause-existing c = existing-by-tree

pub returns-clause-leaving : goal.returns-clause-leaving
returns-clause-leaving c = chance-on-leaving-by-tree

pub returns-clause-end : goal.returns-clause-end
returns-clause-end c = chance-on-end-by-tree
