use Rattle.std.proofs.Common.{◌<◌, ◌∙◌, ap, arith, length, min, sum_by}
use Rattle.halo_status.specs.Nodes.{nodes}
use Rattle.halo_symbol.specs.StatusOf.{tree_of_body, tree_of_node}
use Rattle.halo_symbol.specs.View.{plain_body, plain_node}
use Rattle.halo_symbol.proofs.Shapes.{plain_body-Reversion, plain_node-AtLeast, plain_node-Exactly}
use Rattle.halo_check.specs.Limits.{any_life}
use Rattle.halo_check.proofs.Nodes.{nodes_of, nodes_in-members_of, nodes-joint}
use Rattle.halo_check.proofs.node_count.+counting.Goals as goal

pub nodes_in-returns : goal.nodes_in-returns
nodes_in-returns t c =
    let first = c.args.members.now.first.value in
    let whole = nodes_in-members_of any_life (plain_node first) c.args.members.now.others.items in
    let one = ap (λ m. min (nodes_of any_life m) 18446744073709551615) c.deref.ensures in
    let rest = ap (λ ms. min (sum_by (nodes_of any_life) ms) 18446744073709551615) c.deref-2.ensures.value in
    omega (arith, whole, one, rest)

pub nodes_of_list-returns-else-is_empty : goal.nodes_of_list-returns-else-is_empty
nodes_of_list-returns-else-is_empty t c =
    let others = c.args.members.now.others in
    let some : 0 < length others.items = grind (arith, others.ok.0) in
    omega (arith, nodes-joint any_life (plain_node c.args.members.now.first.value) others.items some)

pub nodes_of_body-returns-in-Reversion : goal.nodes_of_body-returns-in-Reversion
nodes_of_body-returns-in-Reversion t c =
    let arm = c.in-Reversion in
    let is =
    ap (λ b. nodes (tree_of_body any_life b)) (ap plain_body arm.is ∙ plain_body-Reversion arm.first arm.second) in
    omega (arith, is)

pub nodes_of_member-returns-in-AtLeast : goal.nodes_of_member-returns-in-AtLeast
nodes_of_member-returns-in-AtLeast t c =
    let arm = c.in-AtLeast in
    let is =
    ap (λ m. nodes (tree_of_node any_life m)) (ap plain_node arm.is ∙ plain_node-AtLeast arm.field-0 arm.members) in
    omega (arith, is)

pub nodes_of_member-returns-in-Exactly : goal.nodes_of_member-returns-in-Exactly
nodes_of_member-returns-in-Exactly t c =
    let arm = c.in-Exactly in
    let is =
    ap (λ m. nodes (tree_of_node any_life m)) (ap plain_node arm.is ∙ plain_node-Exactly arm.field-0 arm.members) in
    omega (arith, is)
