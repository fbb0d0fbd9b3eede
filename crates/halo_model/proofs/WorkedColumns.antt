-- The worked columns, by computation from the definitions.
use Rattle.std.proofs.Common.{refl}
use Rattle.halo_model.specs.Columns.{column_denominator, discount_power}
use Rattle.halo_model.specs.WorkedColumns.{ColumnRows}

pub column_rows : ColumnRows
unfolding column_denominator discount_power
column_rows = record {
  d_0 = refl;
  d_1 = refl;
  d_2 = refl;
  n_0 = refl;
  n_1 = refl;
  n_2 = refl;
  s_0 = refl;
  s_1 = refl;
  s_2 = refl;
  c_0 = refl;
  c_1 = refl;
  c_2 = refl;
  m_0 = refl;
  m_1 = refl;
  m_2 = refl;
  r_0 = refl;
  r_1 = refl;
  r_2 = refl;
  c_by_0 = refl;
  m_by_0 = refl;
  width_d_2 = refl;
  width_n_0 = refl;
  width_s_0 = refl;
}
