-- The text of the parts of pays: for each pay a line with its symbol, and then one for each part.
use Rattle.std.specs.Prelude.{ℕ, List, [], ◌++◌, codes, flat_map, get_or, length}
use Rattle.std.specs.Fmt.{decimal}
use Rattle.halo_sums.specs.Masks.{bits}
use Rattle.halo_table.specs.DecrementTable.{TableFile}
use Rattle.halo_contract.specs.PlainContract.{PlainContract, life_names}
use Rattle.halo_spell.specs.Canonical.{name_at}
use Rattle.halo_lines.specs.Parts.{worth_of}
use Rattle.halo_lines.specs.declared.parts.Part.{Part}
use Rattle.halo_lines.specs.declared.parts.Part.TheVariants as part
use Rattle.halo_report.specs.CoefficientText.{coefficient_text, set_text, times_text}
use Rattle.halo_report.specs.Lines.{value_line}
use Rattle.halo_report.specs.PaysText.{pays_lines}

-- what a part is of, where the lives have these names: a coefficient of a set at some times, a life
-- that leaves, or the end of a term
abbrev pub subject_text : List (List ℕ) → Part → List ℕ
subject_text lives (part.Term from to coefficient set worth) =
    codes "term " ++ times_text from to
    ++ coefficient_text (set_text lives (bits (length lives) set)) coefficient
subject_text lives (part.OnLife life worth) = codes "life " ++ name_at lives life
subject_text lives (part.OnTerm years worth) = codes "term " ++ decimal years

-- the line of a part: what it is of, and the two ends
abbrev pub part_line : List (List ℕ) → Part → List ℕ
part_line lives p = value_line (subject_text lives p) (worth_of p)

-- the lines of the parts at a place
abbrev pub part_lines : List (List ℕ) → List (List Part) → ℕ → List ℕ
part_lines lives parts place = flat_map (part_line lives) (get_or parts place [])

-- the lines of the parts of a contract, of which there is a list for each pay: for each pay, in the
-- contract's order, its line, and then those of its parts
abbrev pub explain_text : TableFile → PlainContract → List (List Part) → List ℕ
explain_text tables contract parts =
    pays_lines (life_names contract.lives) tables.causes
    (part_lines (life_names contract.lives) parts) 0 contract.pays
