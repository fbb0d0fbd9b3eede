-- The terms of a status have the years that are written.
use Rattle.std.proofs.Common.{ℕ, List}
use Rattle.std.specs.Prelude.{Option, Some, None, ⊤}
use Rattle.halo_status.specs.Nodes.{AtEachNode, AtEachNodeIn}
use Rattle.halo_status.specs.ValidPay.{HasLength}
use Rattle.halo_symbol.specs.StatusOf.{tree_of_body, tree_of_content, tree_of_list, tree_of_node, trees_of_members}
use Rattle.halo_symbol.specs.Symbol.{Mark}
use Rattle.halo_symbol.specs.Tree.{Node, life, term, last, at_least, exactly, group, Members, one, and, Body, list, reversion}
use Rattle.halo_check.specs.Checks.{HasYears}
use Rattle.halo_check.specs.Limits.{IsBodyWithin, IsListWithin, IsMemberWithin}
use Rattle.halo_check.specs.Parts as parts
use Rattle.halo_check.specs.Parts.{AtEach, AtEachMember, AtEachOfBody}

module _ (life_of : List ℕ → ℕ) where
  mutual
    lengths-node : (m : Node) → AtEach IsMemberWithin IsListWithin m → AtEach HasYears (λ ms. ⊤) m
        → AtEachNode HasLength (tree_of_node life_of m)
    lengths-node (life name) within years = tt
    lengths-node (term digits) within years = (years, within)
    lengths-node (last ms) within years = (tt, lengths-members ms within.2 years.2)
    lengths-node (at_least rank ms) within years = (tt, lengths-members ms within.2 years.2)
    lengths-node (exactly rank ms) within years = (tt, lengths-members ms within.2 years.2)
    lengths-node (group body) within years = lengths-body body within.1 years.1

    lengths-members : (ms : Members) → AtEachMember IsMemberWithin IsListWithin ms → AtEachMember HasYears (λ ms. ⊤) ms
        → AtEachNodeIn HasLength (trees_of_members life_of ms)
    lengths-members (one m) within years = (lengths-node m within years, tt)
    lengths-members (and m ms) within years = (lengths-node m within.0 years.0, lengths-members ms within.1 years.1)

    lengths-list : (ms : Members) → AtEachMember IsMemberWithin IsListWithin ms → AtEachMember HasYears (λ ms. ⊤) ms
        → AtEachNode HasLength (tree_of_list life_of ms)
    lengths-list (one m) within years = lengths-node m within years
    lengths-list (and m ms) within years = (tt, (lengths-node m within.0 years.0, lengths-members ms within.1 years.1))

    pub lengths-body : (body : Body) → IsBodyWithin body → parts.AtEachNode HasYears body
        → AtEachNode HasLength (tree_of_body life_of body)
    lengths-body (list ms) within years = lengths-list ms within.1 years.1
    lengths-body (reversion ms ns) within years =
        (tt, lengths-list ms within.0.1 years.0.1, lengths-list ns within.2 years.2)

  pub lengths-content : (mark : Option Mark) (body : Body) → IsBodyWithin body → parts.AtEachNode HasYears body
      → AtEachNode HasLength (tree_of_content life_of mark body)
  lengths-content None body within years = lengths-body body within years
  lengths-content (Some mark) (list ms) within years = (tt, lengths-members ms within.1 years.1)
  lengths-content (Some mark) (reversion ms ns) within years = lengths-body (reversion ms ns) within years
