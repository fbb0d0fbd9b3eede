-- Worked commutation columns: of 4 alive at age 0 leave 2, then 1, then the last one, at the
-- interest 1/1.
use Rattle.std.specs.Prelude.{◌≡◌, ℕ, ◌*◌, [], ◌∷◌}
use Rattle.halo_table.specs.DecrementTable.{TableFile}
use Rattle.halo_model.specs.Columns.{ColumnBasis, column_c, column_c_by, column_d, column_denominator, column_m, column_m_by, column_n, column_r, column_s, width_d, width_n, width_s}
use Rattle.halo_model.specs.SmallBasis.{row}

-- the table, from age 0 on
abbrev pub from_birth : TableFile
from_birth = record {
  causes = [] ∷ [];
  tables = record {
    name = [];
    first_age = 0;
    rows = row 4 (2 ∷ []) ∷ row 2 (1 ∷ []) ∷ row 1 (1 ∷ []) ∷ [];
  } ∷ [];
}

abbrev pub halves : ColumnBasis
halves = record { p = λ k. 1; q = λ k. 1; file = from_birth; table = 0 }

-- an entry is so many thousandths
abbrev pub IsThousandths : ℕ → ℕ → Type 0
IsThousandths entry n = entry * 1000 ≡ n * column_denominator halves

-- the columns at the ages 0, 1 and 2
pub record ColumnRows : Type 0 where
  pub d_0 : IsThousandths (column_d halves 0) 4000
  pub d_1 : IsThousandths (column_d halves 1) 1000
  pub d_2 : IsThousandths (column_d halves 2) 250
  pub n_0 : IsThousandths (column_n halves 0) 5250
  pub n_1 : IsThousandths (column_n halves 1) 1250
  pub n_2 : IsThousandths (column_n halves 2) 250
  pub s_0 : IsThousandths (column_s halves 0) 6750
  pub s_1 : IsThousandths (column_s halves 1) 1500
  pub s_2 : IsThousandths (column_s halves 2) 250
  pub c_0 : IsThousandths (column_c halves 0) 1000
  pub c_1 : IsThousandths (column_c halves 1) 250
  pub c_2 : IsThousandths (column_c halves 2) 125
  pub m_0 : IsThousandths (column_m halves 0) 1375
  pub m_1 : IsThousandths (column_m halves 1) 375
  pub m_2 : IsThousandths (column_m halves 2) 125
  pub r_0 : IsThousandths (column_r halves 0) 1875
  pub r_1 : IsThousandths (column_r halves 1) 500
  pub r_2 : IsThousandths (column_r halves 2) 125
  pub c_by_0 : IsThousandths (column_c_by halves 0 0) 1000
  pub m_by_0 : IsThousandths (column_m_by halves 0 0) 1375
  pub width_d_2 : width_d halves 2 ≡ 6
  pub width_n_0 : width_n halves 0 ≡ 12
  pub width_s_0 : width_s halves 0 ≡ 30
