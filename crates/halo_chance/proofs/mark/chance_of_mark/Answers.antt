use Rattle.std.proofs.Common.{arith, length}
use Rattle.halo_status.specs.StatusTree.{tree_of, trees_in}
use Rattle.halo_status.specs.View.{is_on}
use Rattle.halo_status.proofs.Lists.{member_count-trees_in}
use Rattle.halo_chance.proofs.Costs.{cost-mark}
use Rattle.halo_chance.proofs.Others.{encloses-waiting, member-tree}
use Rattle.halo_chance.proofs.Parts.{named-member}
use Rattle.halo_chance.proofs.mark.chance_of_mark.Goals as goal

pub along-marked-requires-clause-named : goal.along-marked-requires-clause-named
along-marked-requires-clause-named g c =
    named-member (length c.args.lives.now) c.args.members.now c.from-member.result c.at.result.now c.at.ensures
    c.requires.named

pub returns-clause-chance : goal.returns-clause-chance
returns-clause-chance g c =
    encloses-waiting c.args.lives.now (is_on c.args.view c.args.t) c.args.mark (trees_in c.args.members.now)
    (tree_of c.at.result.now) c.along-marked.result c.others_at-others.result c.mul.result
    c.place_of-place.result
    (rw c.from-member.ensures at (member-tree c.args.members.now c.from-member.result c.at.result.now c.at.ensures))
    (omega (arith, c.place_of-place.ensures.value, member_count-trees_in c.args.members.now))
    c.along-marked.ensures.chance (rw c.from-member.ensures at c.others_at-others.ensures.chance) c.mul.ensures.chance

pub returns-clause-cost : goal.returns-clause-cost
returns-clause-cost g c =
    cost-mark c.args.steps.now c.others_at-others.new.steps c.along-marked.new.steps c.mul.new.steps
    (trees_in c.args.members.now) c.from-member.result (tree_of c.at.result.now)
    (member-tree c.args.members.now c.from-member.result c.at.result.now c.at.ensures) c.others_at-others.ensures.cost
    c.along-marked.ensures.cost c.mul.ensures.cost
