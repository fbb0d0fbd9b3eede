use Rattle.halo_table.proofs.Cells.{cell_some, cell_none}
use Rattle.halo_table.proofs.fields.cell.Goals as goal

pub returns-in-Some : goal.returns-in-Some
returns-in-Some c = cell_some _ _ _ c.in-Some.ensures.value

pub returns-in-None : goal.returns-in-None
returns-in-None c = cell_none _ _ c.in-None.ensures.value
