-- Lists grow at their ends.
use Rattle.std.proofs.Common.{◌≡◌, max, List, [], ◌∷◌, ◌++◌, refl, ap, arith}
use Rattle.halo_symbol.specs.Characters.{colon}
use Rattle.halo_symbol.specs.Piece.{Piece, byte}
use Rattle.halo_symbol.specs.Tree as plain
use Rattle.halo_symbol.specs.Tree.{life, term, last, at_least, exactly, group, one, and, list, reversion}
use Rattle.halo_symbol.specs.Nesting.{nest, nest_members}
use Rattle.halo_symbol.specs.Pieces.{node_pieces, members_pieces}
use Rattle.halo_symbol.specs.View.{plain_node, members_of}
use Rattle.halo_symbol.proofs.Lengths.{node_pieces-longer}
use Rattle.halo_symbol.specs.declared.tree.Node.{Node}

-- a member more at the end of a list
pub members_pieces-push : (first : plain.Node) (ms : List Node) (m : Node) (rest : List Piece)
    → members_pieces (members_of first (ms ++ m ∷ [])) rest
    ≡ members_pieces (members_of first ms) (byte colon ∷ node_pieces (plain_node m) rest)
members_pieces-push first [] m rest = refl
members_pieces-push first (o ∷ ms) m rest =
    ap (λ ps. node_pieces first (byte colon ∷ ps)) (members_pieces-push (plain_node o) ms m rest)

-- how deep it is then
pub nest_members-push : (first : plain.Node) (ms : List Node) (m : Node)
    → nest_members (members_of first (ms ++ m ∷ [])) ≡ max (nest_members (members_of first ms)) (nest (plain_node m))
nest_members-push first [] m = refl
nest_members-push first (o ∷ ms) m = omega (arith, nest_members-push (plain_node o) ms m)

pub ruleset pushes = (node_pieces-longer, members_pieces-push, nest_members-push)
