-- A body whose lists have at most 16 members means a status whose lists are short, whichever lives its names are.
use Rattle.std.proofs.Common.{◌≡◌, ◌≤◌, ℕ, List, arith}
use Rattle.std.specs.Prelude.{Option, Some, None}
use Rattle.halo_status.specs.Bounds.{IsShort}
use Rattle.halo_status.specs.Nodes.{AtEachNodeIn, HasShortList, HasShortLists}
use Rattle.halo_status.specs.Tree as status
use Rattle.halo_symbol.specs.StatusOf.{tree_of_body, tree_of_content, tree_of_list, tree_of_node, tree_of_symbol, trees_of_members}
use Rattle.halo_symbol.specs.Symbol.{Mark, Symbol}
use Rattle.halo_symbol.specs.Tree.{Node, life, term, last, at_least, exactly, group, Members, one, and, Body, list, reversion, member_count}
use Rattle.halo_check.specs.Limits.{IsBodyWithin, IsListWithin, IsMemberWithin, IsStatusWithin, IsSymbolWithin}
use Rattle.halo_check.specs.Parts.{AtEach, AtEachMember, AtEachOfBody}

-- a status has as many members as its list
pub member_count-trees : (f : List ℕ → ℕ) (ms : Members) → status.member_count (trees_of_members f ms) ≡ member_count ms
member_count-trees f (one m) = omega arith
member_count-trees f (and m ms) = omega (arith, member_count-trees f ms)

-- a list has a member
some_member : (ms : Members) → 1 ≤ member_count ms
some_member (one m) = omega arith
some_member (and m ms) = omega arith

short : (f : List ℕ → ℕ) (ms : Members) → IsListWithin ms → IsShort (status.member_count (trees_of_members f ms))
short f ms few = (omega (arith, member_count-trees f ms, some_member ms), omega (arith, member_count-trees f ms))

mutual
  short_lists-node : (f : List ℕ → ℕ) (P : Node → Type 0) (m : Node) → AtEach P IsListWithin m
      → HasShortLists (tree_of_node f m)
  short_lists-node f P (life name) h = tt
  short_lists-node f P (term years) h = tt
  short_lists-node f P (last ms) h = (short f ms h.1, short_lists-members f P ms h.2)
  short_lists-node f P (at_least rank ms) h = (short f ms h.1, short_lists-members f P ms h.2)
  short_lists-node f P (exactly rank ms) h = (short f ms h.1, short_lists-members f P ms h.2)
  short_lists-node f P (group body) h = short_lists-body f P body h.1

  short_lists-members : (f : List ℕ → ℕ) (P : Node → Type 0) (ms : Members) → AtEachMember P IsListWithin ms
      → AtEachNodeIn HasShortList (trees_of_members f ms)
  short_lists-members f P (one m) h = (short_lists-node f P m h, tt)
  short_lists-members f P (and m ms) h = (short_lists-node f P m h.0, short_lists-members f P ms h.1)

  short_lists-list : (f : List ℕ → ℕ) (P : Node → Type 0) (ms : Members) → IsListWithin ms
      → AtEachMember P IsListWithin ms → HasShortLists (tree_of_list f ms)
  short_lists-list f P (one m) few h = short_lists-node f P m h
  short_lists-list f P (and m ms) few h =
      (short f (and m ms) few, (short_lists-node f P m h.0, short_lists-members f P ms h.1))

  pub short_lists-body : (f : List ℕ → ℕ) (P : Node → Type 0) (body : Body) → AtEachOfBody P IsListWithin body
      → HasShortLists (tree_of_body f body)
  short_lists-body f P (list ms) h = short_lists-list f P ms h.0 h.1
  short_lists-body f P (reversion ms ns) h =
      (tt, (short_lists-list f P ms h.0.0 h.0.1), (short_lists-list f P ns h.1 h.2))

pub short_lists-status : (f : List ℕ → ℕ) (body : Body) → IsStatusWithin body → HasShortLists (tree_of_body f body)
short_lists-status f body within = short_lists-body f IsMemberWithin body within.parts

pub short_lists-symbol : (f : List ℕ → ℕ) (s : Symbol) → IsSymbolWithin s → HasShortLists (tree_of_symbol f s)
short_lists-symbol f s within = content s.mark s.body within.parts
  where
    content : (mark : Option Mark) (body : Body) → IsBodyWithin body → HasShortLists (tree_of_content f mark body)
    content None body h = short_lists-body f IsMemberWithin body h
    content (Some mark) (list ms) h = (short f ms h.0, short_lists-members f IsMemberWithin ms h.1)
    content (Some mark) (reversion ms ns) h = short_lists-body f IsMemberWithin (reversion ms ns) h
