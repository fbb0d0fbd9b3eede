-- Laws of the text of columns: it tells what the columns are.
use Rattle.std.specs.Prelude.{ℕ, pos}
use Rattle.halo_num.specs.Ends.{Ends}
use Rattle.halo_model.specs.Columns.{ColumnBasis, column_denominator}
use Rattle.halo_model.specs.Line.{IsLine}
use Rattle.halo_model.specs.Widths.{printed_width}
use Rattle.halo_columns.specs.Entries.{IsEntry}
use Rattle.halo_columns.specs.Set.{ColumnLists, EnclosesColumns}
use Rattle.halo_report.specs.ColumnsText.{ArePrintable}
use Rattle.halo_report.specs.Printed.{printed_of}

-- the columns of a table can be printed
abbrev pub ColumnsArePrintable : Type 0
ColumnsArePrintable = (c : ColumnBasis) (set : ColumnLists)
    → EnclosesColumns c set → ArePrintable c.file c.table set

-- a printed entry encloses what the entry encloses, no wider than its width printed outward
abbrev pub PrintedEntriesEnclose : Type 0
PrintedEntriesEnclose = (c : ColumnBasis) (entry w most : ℕ) (i : Ends)
    → IsEntry c entry w most i
    → IsLine (printed_of i) (pos entry) (column_denominator c) (printed_width w)
