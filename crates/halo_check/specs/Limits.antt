-- The limits that the parts of a line keep by themselves.
use Rattle.std.specs.Prelude.{ℕ, ◌≤◌, ◌^◌, List, All, IfSome, length, ⊤}
use Rattle.halo_text.specs.Number.{number}
use Rattle.halo_text.specs.declared.name.TheConstants.{LONGEST_NAME}
use Rattle.halo_status.specs.Nodes.{nodes}
use Rattle.halo_symbol.specs.Tree.{Node, life, term, last, at_least, exactly, group, Members, Body, member_count}
use Rattle.halo_symbol.specs.Symbol.{Vary, decreasing, Names, Symbol}
use Rattle.halo_symbol.specs.StatusOf.{tree_of_body, tree_of_symbol}
use Rattle.halo_syntax.specs.Line.{LaterRate}
use Rattle.halo_check.specs.Parts.{AtEachOfBody}
use Rattle.halo_check.specs.declared.limits.TheConstants.{GREATEST_PART, GREATEST_RANK, LAST_YEAR, MOST_MEMBERS, MOST_NODES, MOST_YEARS}

-- the digits write a number of at most the limit
abbrev pub IsUpTo : ℕ → List ℕ → Type 0
IsUpTo limit digits = number digits ≤ limit

-- a name of at most 32 bytes
abbrev pub IsShortName : List ℕ → Type 0
IsShortName name = length name ≤ LONGEST_NAME

-- a member whose name has at most 32 bytes, whose term has at most 200 years, or whose number is at
-- most 64
abbrev pub IsMemberWithin : Node → Type 0
IsMemberWithin (life name) = IsShortName name
IsMemberWithin (term years) = IsUpTo MOST_YEARS years
IsMemberWithin (last ms) = ⊤
IsMemberWithin (at_least rank ms) = IsUpTo GREATEST_RANK rank
IsMemberWithin (exactly rank ms) = IsUpTo GREATEST_RANK rank
IsMemberWithin (group body) = ⊤

-- a list of at most 16 members
abbrev pub IsListWithin : Members → Type 0
IsListWithin ms = member_count ms ≤ MOST_MEMBERS

-- a body whose members and lists are such
abbrev pub IsBodyWithin : Body → Type 0
IsBodyWithin body = AtEachOfBody IsMemberWithin IsListWithin body

-- names that stand for no life in particular: how many nodes a status has does not depend on them
abbrev pub any_life : List ℕ → ℕ
any_life name = 0

-- a status of a premium: its body is within the limits, and has at most 64 nodes
pub record IsStatusWithin (body : Body) : Type 0 where
  pub parts : IsBodyWithin body
  pub few_nodes : nodes (tree_of_body any_life body) ≤ MOST_NODES

-- the number of a decreasing head is at most 200
abbrev pub IsVaryWithin : Vary → Type 0
IsVaryWithin (decreasing count) = IsUpTo MOST_YEARS count
IsVaryWithin _ = ⊤

-- each name of a set has at most 32 bytes
abbrev pub AreNamesWithin : Names → Type 0
AreNamesWithin names = IsShortName names.first × All IsShortName names.others

-- a symbol: each of its numbers, names and lists is within its limit, and its body has at most 64
-- nodes
pub record IsSymbolWithin (s : Symbol) : Type 0 where
  pub defer : IfSome s.defer (IsUpTo MOST_YEARS)
  pub vary : IsVaryWithin s.vary
  pub causes : IfSome s.causes AreNamesWithin
  pub parts : IsBodyWithin s.body
  pub few_nodes : nodes (tree_of_symbol any_life s) ≤ MOST_NODES
  pub mark : IfSome s.mark (λ mark. IsUpTo GREATEST_RANK mark.rank)

-- a fraction of interest: its numbers are at most 10^9, and its year is at most 199
pub record IsRateWithin (rate : LaterRate) : Type 0 where
  pub year : IsUpTo LAST_YEAR rate.year
  pub p : IsUpTo GREATEST_PART rate.p
  pub q : IsUpTo GREATEST_PART rate.q
