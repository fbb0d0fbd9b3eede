-- Laws of lines.
use Rattle.std.specs.Prelude.{◌≡◌, ◌⊎◌, ℕ, List}
use Rattle.halo_syntax.specs.Line.{Line}
use Rattle.halo_syntax.specs.ProperLine.{SpellsLine}

-- words spell at most one line
abbrev pub LineIsOne : Type 0
LineIsOne = (words : List (List ℕ)) (line other : Line)
    → SpellsLine words line → SpellsLine words other → line ≡ other

-- words spell a line, or they spell none
abbrev pub LineIsDecided : Type 0
LineIsDecided = (words : List (List ℕ))
    → ((line : Line) × SpellsLine words line) ⊎ ((line : Line) → SpellsLine words line → ⊥)
