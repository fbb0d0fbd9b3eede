-- The texts of parts of lines.
use Rattle.std.specs.Prelude.{ℕ, List, ◌++◌, codes, flat_map}
use Rattle.std.specs.Fmt.{decimal}
use Rattle.halo_interest.specs.declared.rate.Rate.{Rate}
use Rattle.halo_syntax.specs.Line.{fraction_word}

-- a fraction behind another one: its year and then the fraction, a space before each
abbrev pub rate_text : Rate → List ℕ
rate_text rate =
    codes " " ++ decimal rate.year ++ codes " " ++ fraction_word (decimal rate.p) (decimal rate.q)

-- some names, a space before each
abbrev pub names_text : List (List ℕ) → List ℕ
names_text names = flat_map (λ name. codes " " ++ name) names
