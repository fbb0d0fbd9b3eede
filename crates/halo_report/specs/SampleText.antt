-- The summary of a sample.
use Rattle.std.specs.Prelude.{ℕ, List, ◌++◌, codes, length}
use Rattle.std.specs.Fmt.{decimal}
use Rattle.halo_lines.specs.Report.{PlainReport}
use Rattle.halo_report.specs.ValueText.{last_lines}

-- the line of a word and a number
abbrev pub count_line : List ℕ → ℕ → List ℕ
count_line word count = word ++ decimal count ++ codes "\n"

-- the lines of a sample: its number, the bytes of its two files, how many pays, and the lines of
-- the report of its values behind those of the pays
abbrev pub sample_text : ℕ → ℕ → ℕ → PlainReport → List ℕ
sample_text number tables contract report =
    count_line (codes "sample ") number ++ count_line (codes "tables ") tables
    ++ count_line (codes "contract ") contract ++ count_line (codes "pays ") (length report.pays)
    ++ last_lines report
