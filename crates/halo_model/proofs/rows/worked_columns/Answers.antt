use Rattle.halo_model.proofs.WorkedColumns.{column_rows}
use Rattle.halo_model.proofs.rows.worked_columns.Goals as goal

pub returns : goal.returns
returns c = column_rows
