use Rattle.std.proofs.Common.{arith}
use Rattle.halo_symbol.specs.View.{plain_node}
use Rattle.std.proofs.lemmas.Bool.Decides.{nat_tests}
use Rattle.halo_check.proofs.BodyParts.{member_count-members_of}
use Rattle.halo_check.proofs.limits.PartLimitsPartTest.passes_list.Goals as goal

pub returns : goal.returns
returns c =
    let members = c.args.members.now in
    let count = member_count-members_of (plain_node members.first.value) members.others.items in
    let len = members.others.ok.0 in
    grind (arith, nat_tests)
