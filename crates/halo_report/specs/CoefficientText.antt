-- The text of a coefficient: the times at which it stands, its sign and size, and its set of lives.
use Rattle.std.specs.Prelude.{ℕ, List, [], ◌∷◌, ◌++◌, Bool, codes, ℤ, pos, negsuc, unsigned_abs}
use Rattle.std.specs.Fmt.{decimal}
use Rattle.std.specs.List.{join_with_byte}
use Rattle.halo_spell.specs.Canonical.{chosen}

-- the first and the last of some times
abbrev pub times_text : ℕ → ℕ → List ℕ
times_text from to = decimal from ++ codes ".." ++ decimal to

-- some names, joined by `:`; `1` where there are none
abbrev pub joined : List (List ℕ) → List ℕ
joined [] = codes "1"
joined (name ∷ names) = join_with_byte 58 (name ∷ names)

-- a set of lives that have these names
abbrev pub set_text : List (List ℕ) → List Bool → List ℕ
set_text names s = joined (chosen names s)

-- the sign of a coefficient, behind a space
abbrev pub sign_text : ℤ → List ℕ
sign_text (pos n) = codes " +"
sign_text (negsuc n) = codes " -"

-- a coefficient and its set: its sign, its size and the set
abbrev pub coefficient_text : List ℕ → ℤ → List ℕ
coefficient_text set coefficient =
    sign_text coefficient ++ decimal (unsigned_abs coefficient) ++ codes " " ++ set
