-- The value report.
use Rattle.std.specs.Prelude.{ℕ, List, [], ◌++◌, Option, None, Some, codes}
use Rattle.halo_num.specs.declared.nano.Nano.{Nano}
use Rattle.halo_lines.specs.Report.{PlainReport}
use Rattle.halo_report.specs.Lines.{value_line, numbered_lines}

-- the line of the premium, where there is one
abbrev pub premium_lines : Option Nano → List ℕ
premium_lines None = []
premium_lines (Some ends) = value_line (codes "premium") ends

-- the lines behind those of the pays: the total, the premium and the reserves
abbrev pub last_lines : PlainReport → List ℕ
last_lines report =
    value_line (codes "total") report.total ++ premium_lines report.premium
    ++ numbered_lines (codes "reserve") 1 report.reserves

-- the lines of the pays, and those behind them
abbrev pub report_text : PlainReport → List ℕ
report_text report = numbered_lines (codes "pay") 1 report.pays ++ last_lines report
