use Rattle.halo_chance.proofs.Present.{end-present, existing-present, leaving-present}
use Rattle.halo_chance.proofs.laws.present_values_go_along_the_tree.Goals as goal

pub returns-clause-existing : goal.returns-clause-existing
returns-clause-existing c = existing-present

pub returns-clause-leaving : goal.returns-clause-leaving
returns-clause-leaving c = leaving-present

pub returns-clause-end : goal.returns-clause-end
returns-clause-end c = end-present
