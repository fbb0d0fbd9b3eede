-- A status of names that were declared names lives with numbers below how many there are.
use Rattle.std.proofs.Common.{◌<◌, ℕ, List, length, get_or, Contains, inl, inr, arith}
use Rattle.std.specs.Prelude.{Option, Some, None, ⊤, not}
use Rattle.std.specs.Str.{bytes_eq}
use Rattle.std.proofs.lemmas.Bool.{both_ways, cases_lt, eqb-true, not-true, or_cases}
use Rattle.std.proofs.lemmas.List.Sums.{prefix_len_passes}
use Rattle.std.proofs.lemmas.Slice.Eq.{bytes_eq-Decides}
use Rattle.halo_status.specs.Naming.{AnyNamesLivesBelow, NamesLivesBelow}
use Rattle.halo_symbol.specs.StatusOf.{tree_of_body, tree_of_content, tree_of_list, tree_of_node, trees_of_members}
use Rattle.halo_symbol.specs.Symbol.{Mark}
use Rattle.halo_symbol.specs.Tree.{Node, life, term, last, at_least, exactly, group, Members, one, and, Body, list, reversion}
use Rattle.halo_check.specs.Checks.{IsDeclared}
use Rattle.halo_check.specs.Draft.{place_of}
use Rattle.halo_check.specs.Parts.{AtEach, AtEachMember, AtEachNode}

-- the place of a name among names that it is one of
pub place_of-lt : (names : List (List ℕ)) (name : List ℕ) → Contains names name → place_of names name < length names
place_of-lt names name (k, below, is) = elim (cases_lt k (place_of names name)) [
  | inl before ↦
      absurd (both_ways _ (not-true _ (prefix_len_passes (λ other. not (bytes_eq other name)) names k name before))
      ((bytes_eq-Decides (get_or names k name) name).1 is))
  | inr behind ↦ omega arith
]

module _ (names : List (List ℕ)) where
  mutual
    placed-node : (m : Node) → AtEach (IsDeclared names) (λ ms. ⊤) m
        → NamesLivesBelow (length names) (tree_of_node (place_of names) m)
    placed-node (life name) declared i named = omega (arith, eqb-true _ _ named, place_of-lt names name declared)
    placed-node (term digits) declared i named = absurd (cc named)
    placed-node (last ms) declared i named = placed-members ms declared.2 i named
    placed-node (at_least rank ms) declared i named = placed-members ms declared.2 i named
    placed-node (exactly rank ms) declared i named = placed-members ms declared.2 i named
    placed-node (group body) declared i named = placed-body body declared.1 i named

    placed-members : (ms : Members) → AtEachMember (IsDeclared names) (λ ms. ⊤) ms
        → AnyNamesLivesBelow (length names) (trees_of_members (place_of names) ms)
    placed-members (one m) declared i named =
        elim (or_cases _ _ named) [ inl first ↦ placed-node m declared i first | inr none ↦ absurd (cc none) ]
    placed-members (and m ms) declared i named =
        elim (or_cases _ _ named) [
          | inl first ↦ placed-node m declared.0 i first
          | inr rest ↦ placed-members ms
              declared.1 i rest
        ]

    placed-list : (ms : Members) → AtEachMember (IsDeclared names) (λ ms. ⊤) ms
        → NamesLivesBelow (length names) (tree_of_list (place_of names) ms)
    placed-list (one m) declared i named = placed-node m declared i named
    placed-list (and m ms) declared i named =
        elim (or_cases _ _ named) [
          | inl first ↦ placed-node m declared.0 i first
          | inr rest ↦ placed-members ms
              declared.1 i rest
        ]

    pub placed-body : (body : Body) → AtEachNode (IsDeclared names) body
        → NamesLivesBelow (length names) (tree_of_body (place_of names) body)
    placed-body (list ms) declared i named = placed-list ms declared.1 i named
    placed-body (reversion ms ns) declared i named =
        elim (or_cases _ _ named) [
          | inl first ↦ placed-list ms declared.0.1 i first
          | inr then ↦ placed-list ns
              declared.2 i then
        ]

  pub placed-content : (mark : Option Mark) (body : Body) → AtEachNode (IsDeclared names) body
      → NamesLivesBelow (length names) (tree_of_content (place_of names) mark body)
  placed-content None body declared = placed-body body declared
  placed-content (Some mark) (list ms) declared = placed-members ms declared.1
  placed-content (Some mark) (reversion ms ns) declared = placed-body (reversion ms ns) declared
