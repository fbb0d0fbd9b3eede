-- What is written of a status or a pay, in a form that can be put together in memory.
use Rattle.std.specs.Prelude.{List, ℕ, ⊤}
use Rattle.halo_symbol.specs.Proper.{AreProper, IsProper, IsProperBody, IsProperSymbol}
use Rattle.halo_symbol.specs.Symbol.{Symbol}
use Rattle.halo_symbol.specs.Tree.{Node, Members, Body}
use Rattle.halo_check.specs.Checks.{IsDeclared}
use Rattle.halo_check.specs.Limits.{IsBodyWithin, IsListWithin, IsMemberWithin, IsSymbolWithin}
use Rattle.halo_check.specs.Parts.{AtEach, AtEachMember, AtEachNode}

-- a member is proper, its parts are within their limits, and the lives that it names are among
-- these
pub record IsUsable (lives : List (List ℕ)) (m : Node) : Type 0 where
  pub proper : IsProper m
  pub within : AtEach IsMemberWithin IsListWithin m
  pub declared : AtEach (IsDeclared lives) (λ ms. ⊤) m

-- the members of a list are so, and are not too many
pub record AreUsable (lives : List (List ℕ)) (ms : Members) : Type 0 where
  pub proper : AreProper ms
  pub few : IsListWithin ms
  pub within : AtEachMember IsMemberWithin IsListWithin ms
  pub declared : AtEachMember (IsDeclared lives) (λ ms. ⊤) ms

-- a body is so
pub record IsUsableBody (lives : List (List ℕ)) (body : Body) : Type 0 where
  pub proper : IsProperBody body
  pub within : IsBodyWithin body
  pub declared : AtEachNode (IsDeclared lives) body

-- a symbol is so
pub record IsUsableSymbol (lives : List (List ℕ)) (s : Symbol) : Type 0 where
  pub proper : IsProperSymbol s
  pub within : IsSymbolWithin s
  pub declared : AtEachNode (IsDeclared lives) s.body
