-- Commutation columns: by age, the discounted survivors and leavers of a table, and their sums up
-- to its last age.
use Rattle.std.specs.Prelude.{◌≡◌, ℕ, ◌+◌, ◌-◌, ◌*◌, ◌≤◌, [], ◌∷◌, length}
use Rattle.halo_sums.specs.Sums.{numbers_from, sum_over}
use Rattle.halo_status.specs.Tree.{life}
use Rattle.halo_status.specs.declared.pay.Kind.TheVariants.{Due, Insurance}
use Rattle.halo_table.specs.DecrementTable.{TableFile, last_age_of, leavers_at, survivors_at, HasRow}
use Rattle.halo_table.specs.Sound.{IsSound}
use Rattle.halo_model.specs.Basis.{Basis, accumulated, discounted}
use Rattle.halo_model.specs.FromTables.{life_of}
use Rattle.halo_contract.specs.declared.ties.Ties.{Ties}
use Rattle.halo_contract.specs.declared.ties.Ties.TheVariants.{Declared}
use Rattle.halo_contract.specs.Premium.{all_lives}
use Rattle.halo_model.specs.SmallBasis.{plain}
use Rattle.halo_model.specs.Value.{denominator, numerator}

-- what columns are made of: the interest p k / q k of year k, counted from birth, and the table at
-- a place of a file
pub record ColumnBasis : Type 0 where
  pub p : ℕ → ℕ
  pub q : ℕ → ℕ
  pub file : TableFile
  pub table : ℕ

-- the age after the last one
abbrev pub end_age : ColumnBasis → ℕ
end_age c = last_age_of c.file c.table + 1

-- the interest of the years up to the age after the last one
abbrev pub years_of : ColumnBasis → Basis
years_of c = record { p = c.p; q = c.q; last_time = end_age c; lives = []; ties = Declared }

-- all columns are told in the parts of which 1 has so many: the product of the p + q of these years
unfoldable pub column_denominator : ColumnBasis → ℕ
column_denominator c = accumulated (years_of c) 0

-- v^t in these parts: the product of the discount factors q / (p + q) of t years
unfoldable pub discount_power : ColumnBasis → ℕ → ℕ
discount_power c t = discounted (years_of c) 0 t

-- l and d: those alive at an age, and those who leave at it by one cause, or by whichever
abbrev pub survivors : ColumnBasis → ℕ → ℕ
survivors c x = survivors_at c.file c.table x

abbrev pub leavers_by_cause : ColumnBasis → ℕ → ℕ → ℕ
leavers_by_cause c j x = leavers_at c.file c.table x j

abbrev pub leavers_at_age : TableFile → ℕ → ℕ → ℕ
leavers_at_age file table x =
    sum_over (numbers_from 0 (length file.causes)) (λ j. leavers_at file table x j)

abbrev pub leavers : ColumnBasis → ℕ → ℕ
leavers c x = leavers_at_age c.file c.table x

-- the sum of a column from an age to the last one
abbrev pub sum_from : ColumnBasis → (ℕ → ℕ) → ℕ → ℕ
sum_from c column x = sum_over (numbers_from x (end_age c - x)) column

-- D_x = v^x l_x, N_x = the sum of D from x on, S_x = the sum of N from x on
abbrev pub column_d : ColumnBasis → ℕ → ℕ
column_d c x = discount_power c x * survivors c x

abbrev pub column_n : ColumnBasis → ℕ → ℕ
column_n c = sum_from c (column_d c)

abbrev pub column_s : ColumnBasis → ℕ → ℕ
column_s c = sum_from c (column_n c)

-- C_x = v^(x+1) d_x, M_x = the sum of C from x on, R_x = the sum of M from x on
abbrev pub column_c : ColumnBasis → ℕ → ℕ
column_c c x = discount_power c (x + 1) * leavers c x

abbrev pub column_m : ColumnBasis → ℕ → ℕ
column_m c = sum_from c (column_c c)

abbrev pub column_r : ColumnBasis → ℕ → ℕ
column_r c = sum_from c (column_m c)

-- C and M by cause
abbrev pub column_c_by : ColumnBasis → ℕ → ℕ → ℕ
column_c_by c j x = discount_power c (x + 1) * leavers_by_cause c j x

abbrev pub column_m_by : ColumnBasis → ℕ → ℕ → ℕ
column_m_by c j = sum_from c (column_c_by c j)

-- how wide the columns may be, in fine units: the power of t years is at most 3t wide, and sums as
-- wide as their terms together
abbrev pub width_d : ColumnBasis → ℕ → ℕ
width_d c x = 3 * x * survivors c x

abbrev pub width_c : ColumnBasis → ℕ → ℕ
width_c c x = 3 * (x + 1) * leavers c x

abbrev pub width_c_by : ColumnBasis → ℕ → ℕ → ℕ
width_c_by c j x = 3 * (x + 1) * leavers_by_cause c j x

abbrev pub width_n : ColumnBasis → ℕ → ℕ
width_n c = sum_from c (width_d c)

abbrev pub width_s : ColumnBasis → ℕ → ℕ
width_s c = sum_from c (width_n c)

abbrev pub width_m : ColumnBasis → ℕ → ℕ
width_m c = sum_from c (width_c c)

abbrev pub width_r : ColumnBasis → ℕ → ℕ
width_r c = sum_from c (width_m c)

abbrev pub width_m_by : ColumnBasis → ℕ → ℕ → ℕ
width_m_by c j = sum_from c (width_c_by c j)

-- For one life aged x, and one fraction of interest: the annuity-due on it is worth N_x / D_x, and
-- the insurance M_x / D_x. Its table ends by the last time.
pub record ColumnsAgree (b : Basis) (c : ColumnBasis) (x : ℕ) : Type 0 where
  pub due : numerator b (plain Due (life 0)) 0 all_lives * column_d c x
      ≡ column_n c x * denominator b 0 all_lives
  pub insurance : numerator b (plain Insurance (life 0)) 0 all_lives * column_d c x
      ≡ column_m c x * denominator b 0 all_lives

abbrev pub ColumnsAgreeOnOneLife : Type 0
ColumnsAgreeOnOneLife = (p q : ℕ) (file : TableFile) (table age last_time : ℕ) (ties : Ties)
    → IsSound file → HasRow file table age
    → (life_of file table age).years_left ≤ last_time
    → ColumnsAgree
    (record {
      p = λ k. p;
      q = λ k. q;
      last_time = last_time;
      lives = life_of file table age ∷ [];
      ties = ties;
    })
    (record { p = λ k. p; q = λ k. q; file = file; table = table })
    age
