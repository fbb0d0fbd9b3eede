-- Lines with the two ends of an enclosure.
use Rattle.std.specs.Prelude.{ℕ, suc, List, [], ◌∷◌, ◌++◌, codes}
use Rattle.std.specs.Fmt.{decimal}
use Rattle.halo_num.specs.declared.nano.Nano.{Nano}
use Rattle.halo_spell.specs.Decimal.{decimal_of}

-- the two ends as decimals, a space before each
abbrev pub ends_text : Nano → List ℕ
ends_text ends = codes " " ++ decimal_of ends.lo ++ codes " " ++ decimal_of ends.hi

-- a line: a word and the two ends
abbrev pub value_line : List ℕ → Nano → List ℕ
value_line word ends = word ++ ends_text ends ++ codes "\n"

-- a line for each enclosure of a list: a word, the number from a first one on, and the two ends
abbrev pub numbered_lines : List ℕ → ℕ → List Nano → List ℕ
numbered_lines word first [] = []
numbered_lines word first (ends ∷ list) =
    value_line (word ++ codes " " ++ decimal first) ends ++ numbered_lines word (suc first) list
