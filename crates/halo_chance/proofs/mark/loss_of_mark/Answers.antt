-- The member loses what it does, and of the others the table tells how many exist.
use Rattle.std.proofs.Common.{◌≡◌, arith, length, true}
use Rattle.halo_status.specs.Naming.{names_life}
use Rattle.halo_status.specs.Nodes.{IsLasting}
use Rattle.halo_status.specs.StatusTree.{tree_of, trees_in}
use Rattle.halo_status.specs.View.{is_on}
use Rattle.halo_status.proofs.Lists.{member_count-trees_in}
use Rattle.halo_status.proofs.NamedMembers.{names_life-at}
use Rattle.halo_chance.proofs.Costs.{cost-mark-loss}
use Rattle.halo_chance.proofs.MarkLosses.{mark-loss}
use Rattle.halo_chance.proofs.Others.{member-has, member-tree}
use Rattle.halo_chance.proofs.Parts.{named-member}
use Rattle.halo_chance.proofs.mark.loss_of_mark.Goals as goal

pub loss-marked-requires-clause-named : goal.loss-marked-requires-clause-named
loss-marked-requires-clause-named g c =
    named-member (length c.args.lives.now) c.args.members.now c.from-member.result c.at.result.now c.at.ensures
    c.requires.named

pub loss-marked-requires-clause-life : goal.loss-marked-requires-clause-life
loss-marked-requires-clause-life g c =
    let at = rw c.from-member.ensures at c.at.ensures in
    c.requires.named c.args.a
    (names_life-at c.args.members.now c.args.mark.member c.at.result.now at c.args.a
    (member-has (λ s. names_life c.args.a s ≡ true) c.args.members.now c.args.mark.member c.at.result.now at
    c.requires.life))

pub returns-clause-loss : goal.returns-clause-loss
returns-clause-loss g c =
    let at = rw c.from-member.ensures at c.at.ensures in
    mark-loss c.args.lives.now (is_on c.args.view c.args.t) c.args.a c.args.mark (trees_in c.args.members.now)
    (tree_of c.at.result.now) c.loss-marked.result c.others_at-others.result c.mul.result c.place_of-place.result
    (member-tree c.args.members.now c.args.mark.member c.at.result.now at)
    (omega (arith, c.place_of-place.ensures.value, member_count-trees_in c.args.members.now))
    c.requires.once
    (member-has IsLasting c.args.members.now c.args.mark.member c.at.result.now at c.requires.lasting)
    (member-has (λ s. names_life c.args.a s ≡ true) c.args.members.now c.args.mark.member c.at.result.now at
    c.requires.life)
    c.loss-marked.ensures.loss (rw c.from-member.ensures at c.others_at-others.ensures.chance) c.mul.ensures.chance

pub returns-clause-cost : goal.returns-clause-cost
returns-clause-cost g c =
    cost-mark-loss c.args.steps.now c.others_at-others.new.steps c.loss-marked.new.steps c.mul.new.steps
    (trees_in c.args.members.now) c.from-member.result (tree_of c.at.result.now)
    (member-tree c.args.members.now c.from-member.result c.at.result.now c.at.ensures) c.others_at-others.ensures.cost
    c.loss-marked.ensures.cost c.mul.ensures.cost
