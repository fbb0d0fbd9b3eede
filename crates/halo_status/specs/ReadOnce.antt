-- How often lives stand in a status, and the statuses in which none stands twice.
use Rattle.std.specs.Prelude.{ℕ, ◌+◌, ◌≤◌, cond, nat_eq}
use Rattle.halo_status.specs.Tree.{Tree, Trees, life, term, joint, last, at_least, exactly, after, none, more}

-- how often life i stands in a status
abbrev mutual
  pub standings : ℕ → Tree → ℕ
  standings i (life j) = cond (nat_eq i j) 1 0
  standings i (term n) = 0
  standings i (joint ms) = standings_in i ms
  standings i (last ms) = standings_in i ms
  standings i (at_least r ms) = standings_in i ms
  standings i (exactly r ms) = standings_in i ms
  standings i (after s t) = standings i s + standings i t

  -- in some members together
  pub standings_in : ℕ → Trees → ℕ
  standings_in i none = 0
  standings_in i (more s ms) = standings i s + standings_in i ms

-- a status that is read once: no life stands in it twice
abbrev pub IsReadOnce : Tree → Type 0
IsReadOnce s = (i : ℕ) → standings i s ≤ 1

-- some members that are read once together
abbrev pub AreReadOnce : Trees → Type 0
AreReadOnce ms = (i : ℕ) → standings_in i ms ≤ 1
