-- The lives and the terms that a status names.
use Rattle.std.specs.Prelude.{ℕ, ◌<◌, IsTrue, Bool, false, ◌||◌, nat_eq}
use Rattle.halo_status.specs.Tree.{Tree, Trees, life, term, joint, last, at_least, exactly, after, none, more}

-- whether life i stands somewhere in a status
abbrev mutual
  pub names_life : ℕ → Tree → Bool
  names_life i (life j) = nat_eq i j
  names_life i (term n) = false
  names_life i (joint ms) = any_names_life i ms
  names_life i (last ms) = any_names_life i ms
  names_life i (at_least r ms) = any_names_life i ms
  names_life i (exactly r ms) = any_names_life i ms
  names_life i (after s t) = names_life i s || names_life i t

  pub any_names_life : ℕ → Trees → Bool
  any_names_life i none = false
  any_names_life i (more s ms) = names_life i s || any_names_life i ms

-- each life that stands in a status has a number below some bound
abbrev pub NamesLivesBelow : ℕ → Tree → Type 0
NamesLivesBelow bound s = (i : ℕ) → IsTrue (names_life i s) → i < bound

-- each life that stands in one of the members has
abbrev pub AnyNamesLivesBelow : ℕ → Trees → Type 0
AnyNamesLivesBelow bound ms = (i : ℕ) → IsTrue (any_names_life i ms) → i < bound

-- whether a term of n years stands somewhere in a status
abbrev mutual
  pub names_term : ℕ → Tree → Bool
  names_term n (life i) = false
  names_term n (term m) = nat_eq n m
  names_term n (joint ms) = any_names_term n ms
  names_term n (last ms) = any_names_term n ms
  names_term n (at_least r ms) = any_names_term n ms
  names_term n (exactly r ms) = any_names_term n ms
  names_term n (after s t) = names_term n s || names_term n t

  pub any_names_term : ℕ → Trees → Bool
  any_names_term n none = false
  any_names_term n (more s ms) = names_term n s || any_names_term n ms
