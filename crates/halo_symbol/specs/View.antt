-- The plain forms of the trees in memory: what they are, without the places of their parts in
-- memory.
use Rattle.std.specs.Prelude.{List, [], ◌∷◌}
use Rattle.halo_symbol.specs.Tree as plain
use Rattle.halo_symbol.specs.declared.tree.Members.{Members}
use Rattle.halo_symbol.specs.declared.tree.Node.{Node, Life, Term, Last', AtLeast', Exactly', Group, Row_of-Node, end_of-Node, more_of-Node}
use Rattle.halo_symbol.specs.declared.tree.Body.{Body, List', Reversion'}

abbrev mutual
  -- a member
  pub plain_node : Node → plain.Node
  plain_node (Life name) = plain.life name.now
  plain_node (Term years) = plain.term years.now
  plain_node (Last' p m l ms) = plain.last (plain_row (plain_node m) ms)
  plain_node (AtLeast' rank p m l ms) = plain.at_least rank.now (plain_row (plain_node m) ms)
  plain_node (Exactly' rank p m l ms) = plain.exactly rank.now (plain_row (plain_node m) ms)
  plain_node (Group body) = plain.group (plain_body body)

  -- a body
  pub plain_body : Body → plain.Body
  plain_body (List' p m l ms) = plain.list (plain_row (plain_node m) ms)
  plain_body (Reversion' p m l ms q n k ns) =
      plain.reversion (plain_row (plain_node m) ms) (plain_row (plain_node n) ns)

  -- a list: a first member, and those behind it as memory holds them
  pub plain_row : plain.Node → {m : _} → Row_of-Node m → plain.Members
  plain_row first end_of-Node = plain.one first
  plain_row first (more_of-Node m ms) = plain.and first (plain_row (plain_node m) ms)

-- a list: a first member, and those behind it as a list
abbrev pub members_of : plain.Node → List Node → plain.Members
members_of first [] = plain.one first
members_of first (m ∷ ms) = plain.and first (members_of (plain_node m) ms)

-- a list
abbrev pub plain_members : Members → plain.Members
plain_members ms = members_of (plain_node ms.first.value) ms.others.items
