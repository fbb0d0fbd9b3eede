-- The nodes of a status: how many there are, and what holds at each of them.
use Rattle.std.specs.Prelude.{ℕ, ◌+◌, ◌≤◌, ⊤}
use Rattle.halo_status.specs.Bounds.{IsShort}
use Rattle.halo_status.specs.Tree.{Tree, Trees, life, term, joint, last, at_least, exactly, after, none, more, member_count}

-- how many lives, terms and compositions a status is written with
abbrev mutual
  pub nodes : Tree → ℕ
  nodes (life i) = 1
  nodes (term n) = 1
  nodes (joint ms) = 1 + nodes_in ms
  nodes (last ms) = 1 + nodes_in ms
  nodes (at_least r ms) = 1 + nodes_in ms
  nodes (exactly r ms) = 1 + nodes_in ms
  nodes (after s t) = 1 + nodes s + nodes t

  pub nodes_in : Trees → ℕ
  nodes_in none = 0
  nodes_in (more s ms) = nodes s + nodes_in ms

-- a fact that holds of a status and of everything it is made of
abbrev mutual
  pub AtEachNode : (Tree → Type 0) → Tree → Type 0
  AtEachNode P (life i) = P (life i)
  AtEachNode P (term n) = P (term n)
  AtEachNode P (joint ms) = P (joint ms) × AtEachNodeIn P ms
  AtEachNode P (last ms) = P (last ms) × AtEachNodeIn P ms
  AtEachNode P (at_least r ms) = P (at_least r ms) × AtEachNodeIn P ms
  AtEachNode P (exactly r ms) = P (exactly r ms) × AtEachNodeIn P ms
  AtEachNode P (after s t) = P (after s t) × AtEachNode P s × AtEachNode P t

  pub AtEachNodeIn : (Tree → Type 0) → Trees → Type 0
  AtEachNodeIn P none = ⊤
  AtEachNodeIn P (more s ms) = AtEachNode P s × AtEachNodeIn P ms

-- a node by which a status can never come back: neither an exact number of members nor one status
-- after another
abbrev pub NeverReturns : Tree → Type 0
NeverReturns (exactly r ms) = ⊥
NeverReturns (after s t) = ⊥
NeverReturns _ = ⊤

-- a lasting status: once it has failed, it has failed for good, since lives only die and terms only
-- end
abbrev pub IsLasting : Tree → Type 0
IsLasting s = AtEachNode NeverReturns s

-- the members of a list are 1 to 16
abbrev pub HasShortList : Tree → Type 0
HasShortList (joint ms) = IsShort (member_count ms)
HasShortList (last ms) = IsShort (member_count ms)
HasShortList (at_least r ms) = IsShort (member_count ms)
HasShortList (exactly r ms) = IsShort (member_count ms)
HasShortList _ = ⊤

-- each list of a status is such, as every status in memory has them
abbrev pub HasShortLists : Tree → Type 0
HasShortLists s = AtEachNode HasShortList s

-- the number asked of the members is at least 1
abbrev pub AsksForSome : Tree → Type 0
AsksForSome (at_least r ms) = 1 ≤ r
AsksForSome (exactly r ms) = 1 ≤ r
AsksForSome _ = ⊤

-- each `at_least` and `exactly` of a status asks for at least one member
abbrev pub HasPositiveRanks : Tree → Type 0
HasPositiveRanks s = AtEachNode AsksForSome s
