-- The mask of a set, and how many masks there are of some lives.
use Rattle.std.specs.Prelude.{◌≡◌, ℕ, ◌≤◌, ◌^◌, ◌*◌, ◌+◌, Bool, cond, List, [], ◌∷◌}

-- the mask of a set: its lives as bits, life i as bit i
abbrev pub mask_of : List Bool → ℕ
mask_of [] = 0
mask_of (life ∷ s) = cond life 1 0 + 2 * mask_of s

-- m is the number of sets of some lives, 1 to 12
pub record CountsSets (m : ℕ) : Type 0 where
  pub lives : ℕ
  pub some : 1 ≤ lives
  pub few : lives ≤ 12
  pub is : m ≡ 2 ^ lives
