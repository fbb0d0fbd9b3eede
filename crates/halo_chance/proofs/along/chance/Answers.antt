-- The tree gives the chance, within the width of its lives and nodes.
use Rattle.halo_status.specs.StatusTree.{tree_of}
use Rattle.halo_status.specs.View.{is_on}
use Rattle.halo_chance.proofs.Costs.{cost-whole}
use Rattle.halo_chance.proofs.Whole.{along-whole, independent-whole}
use Rattle.halo_chance.proofs.along.chance.Goals as goal

pub returns-clause-independent : goal.returns-clause-independent
returns-clause-independent g c = λ once n d w proper enclosed count named.
    independent-whole c.args.lives.now (is_on c.args.view c.args.t) (tree_of c.args.body.now) c.along.result
    once c.along.ensures.chance n d w proper enclosed count named

pub returns-clause-along : goal.returns-clause-along
returns-clause-along g c = λ n d w enclosed.
    along-whole c.args.lives.now (is_on c.args.view c.args.t) (tree_of c.args.body.now) c.along.result
    c.along.ensures.chance n d w enclosed

pub returns-clause-cost : goal.returns-clause-cost
returns-clause-cost g c = cost-whole _ _ _ c.along.ensures.cost
