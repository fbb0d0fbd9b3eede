-- The one way in which a status or a pay is written that is canonical, as a tree of the grammar of
-- symbols: numbers without
-- leading zeros, names by their places, and round brackets only where a list or a reversion stands
-- as a member.
use Rattle.std.specs.Prelude.{ℕ, zero, suc, List, [], ◌∷◌, Bool, true, false, Option, Some, None, get_or, length}
use Rattle.std.specs.Option.{option_and_then, option_map}
use Rattle.std.specs.Fmt.{decimal}
use Rattle.halo_sums.specs.Masks.{bits}
use Rattle.halo_status.specs.Pay.{PlainPay}
use Rattle.halo_status.specs.Tree as status
use Rattle.halo_status.specs.Tree.{Tree, Trees}
use Rattle.halo_status.specs.declared.pay.Mark.{Mark}
use Rattle.halo_status.specs.declared.pay.Vary.{Vary}
use Rattle.halo_status.specs.declared.pay.Vary.TheVariants as paid
use Rattle.halo_symbol.specs.Symbol as written
use Rattle.halo_symbol.specs.Symbol.{Names, Symbol, level, increasing, decreasing}
use Rattle.halo_symbol.specs.Tree.{Node, life, term, last, at_least, exactly, group, Members, one, and, Body, list, reversion}

-- the name at a place, from 0
abbrev pub name_at : List (List ℕ) → ℕ → List ℕ
name_at names place = get_or names place []

-- a member as a list: without the brackets round it, where there are some round a list
abbrev pub list_of : Node → Members
list_of (group (list ms)) = ms
list_of m = one m

-- a member as a body: without the brackets round it, where there are some
abbrev pub body_of : Node → Body
body_of (group body) = body
body_of m = list (one m)

abbrev mutual
  -- a status as a member of a list, where the lives have these names
  pub canonical_node : List (List ℕ) → Tree → Node
  canonical_node names (status.life i) = life (name_at names i)
  canonical_node names (status.term years) = term (decimal years)
  canonical_node names (status.joint ms) = group (list (canonical_members names ms))
  canonical_node names (status.last ms) = last (canonical_members names ms)
  canonical_node names (status.at_least rank ms) =
      at_least (decimal rank) (canonical_members names ms)
  canonical_node names (status.exactly rank ms) =
      exactly (decimal rank) (canonical_members names ms)
  canonical_node names (status.after s t) =
      group (reversion (list_of (canonical_node names s)) (list_of (canonical_node names t)))

  -- the members of a status as a list; a status without members, of which there is none in memory,
  -- is written with one that has no name
  pub canonical_members : List (List ℕ) → Trees → Members
  canonical_members names status.none = one (life [])
  canonical_members names (status.more s ms) = canonical_row names (canonical_node names s) ms

  -- a first member, and those behind it
  pub canonical_row : List (List ℕ) → Node → Trees → Members
  canonical_row names first status.none = one first
  canonical_row names first (status.more s ms) =
      and first (canonical_row names (canonical_node names s) ms)

-- a status by itself
abbrev pub canonical_body : List (List ℕ) → Tree → Body
canonical_body names s = body_of (canonical_node names s)

-- the digits of a deferral; for none they are not written
abbrev pub canonical_defer : ℕ → Option (List ℕ)
canonical_defer zero = None
canonical_defer (suc years) = Some (decimal (suc years))

-- how the payments vary
abbrev pub canonical_vary : Vary → written.Vary
canonical_vary paid.Level = level
canonical_vary paid.Increasing = increasing
canonical_vary (paid.Decreasing count) = decreasing (decimal count)

-- those of some elements that are chosen, in their order
abbrev pub chosen : {X : Type 0} → List X → List Bool → List X
chosen [] choices = []
chosen (x ∷ xs) [] = []
chosen (x ∷ xs) (true ∷ choices) = x ∷ chosen xs choices
chosen (x ∷ xs) (false ∷ choices) = chosen xs choices

-- the names whose places are in a set, which is given as bits, in their order
abbrev pub names_in : List (List ℕ) → ℕ → List (List ℕ)
names_in names mask = chosen names (bits (length names) mask)

-- some names as a set, where there is one
abbrev pub set_of : List (List ℕ) → Option Names
set_of [] = None
set_of (name ∷ names) = Some (record { first = name; others = names })

-- a mark
abbrev pub canonical_mark : Mark → written.Mark
canonical_mark mark = record { member = mark.member; rank = decimal mark.rank }

-- the symbol of a pay, where the lives and the causes have these names
abbrev pub canonical_symbol : List (List ℕ) → List (List ℕ) → PlainPay → Symbol
canonical_symbol lives causes pay = record {
  defer = canonical_defer pay.defer;
  vary = canonical_vary pay.vary;
  kind = pay.kind;
  causes = option_and_then (λ mask. set_of (names_in causes mask)) pay.causes;
  body = canonical_body lives pay.body;
  mark = option_map canonical_mark pay.mark;
}
