-- What the trees in memory are, put together from their parts.
use Rattle.std.proofs.Common.{◌≡◌, ℕ, List, refl, ap, rules}
use Rattle.std.specs.Borrow.{Bor}
use Rattle.halo_symbol.specs.Tree as plain
use Rattle.halo_symbol.specs.View.{plain_node, plain_body, plain_row, members_of, plain_members}
use Rattle.halo_symbol.specs.declared.tree.Members.{Members}
use Rattle.halo_symbol.specs.declared.tree.Node.{Last, AtLeast, Exactly, the_lemmas, Row_of-Node, end_of-Node, more_of-Node, items-the_row-Node}
use Rattle.halo_symbol.specs.declared.tree.Body.{List as OneList, Reversion}

-- the members of a row are those of its list
plain_row-members : (first : plain.Node) (m : _) (row : Row_of-Node m)
    → plain_row first row ≡ members_of first (items-the_row-Node m row)
plain_row-members first m end_of-Node = refl
plain_row-members first m (more_of-Node n row) = ap (plain.and first) (plain_row-members _ _ row)

pub plain_node-Last : (ms : Members) → plain_node (Last ms) ≡ plain.last (plain_members ms)
plain_node-Last ms = search (rules, the_lemmas, plain_row-members)

pub plain_node-AtLeast : (rank : Bor (List ℕ)) (ms : Members)
    → plain_node (AtLeast rank ms) ≡ plain.at_least rank.now (plain_members ms)
plain_node-AtLeast rank ms = search (rules, the_lemmas, plain_row-members)

pub plain_node-Exactly : (rank : Bor (List ℕ)) (ms : Members)
    → plain_node (Exactly rank ms) ≡ plain.exactly rank.now (plain_members ms)
plain_node-Exactly rank ms = search (rules, the_lemmas, plain_row-members)

pub plain_body-List : (ms : Members) → plain_body (OneList ms) ≡ plain.list (plain_members ms)
plain_body-List ms = search (rules, the_lemmas, plain_row-members)

pub plain_body-Reversion : (ms ns : Members)
    → plain_body (Reversion ms ns) ≡ plain.reversion (plain_members ms) (plain_members ns)
plain_body-Reversion ms ns = search (rules, the_lemmas, plain_row-members)

pub ruleset shapes = (plain_node-Last, plain_node-AtLeast, plain_node-Exactly, plain_body-List, plain_body-Reversion)
