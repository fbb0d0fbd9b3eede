-- Facts that hold of each part of a body.
use Rattle.std.specs.Prelude.{⊤}
use Rattle.halo_symbol.specs.Tree.{Node, life, term, last, at_least, exactly, group, Members, one, and, Body, list, reversion}

abbrev mutual
  -- P holds of a member and of each member in it, and Q of each list in it
  pub AtEach : (Node → Type 0) → (Members → Type 0) → Node → Type 0
  AtEach P Q (life name) = P (life name)
  AtEach P Q (term years) = P (term years)
  AtEach P Q (last ms) = P (last ms) × Q ms × AtEachMember P Q ms
  AtEach P Q (at_least rank ms) = P (at_least rank ms) × Q ms × AtEachMember P Q ms
  AtEach P Q (exactly rank ms) = P (exactly rank ms) × Q ms × AtEachMember P Q ms
  AtEach P Q (group body) = P (group body) × AtEachOfBody P Q body

  -- the same of each member of a list
  pub AtEachMember : (Node → Type 0) → (Members → Type 0) → Members → Type 0
  AtEachMember P Q (one m) = AtEach P Q m
  AtEachMember P Q (and m ms) = AtEach P Q m × AtEachMember P Q ms

  -- the same of the lists of a body and of their members
  pub AtEachOfBody : (Node → Type 0) → (Members → Type 0) → Body → Type 0
  AtEachOfBody P Q (list ms) = Q ms × AtEachMember P Q ms
  AtEachOfBody P Q (reversion ms ns) = (Q ms × AtEachMember P Q ms) × Q ns × AtEachMember P Q ns

-- a fact of members alone
abbrev pub AtEachNode : (Node → Type 0) → Body → Type 0
AtEachNode P body = AtEachOfBody P (λ ms. ⊤) body
