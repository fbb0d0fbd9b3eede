-- Columns and their sums, as lists of intervals.
use Rattle.std.specs.Prelude.{◌≡◌, ℕ, ◌*◌, ◌<◌, List, get_or, length}
use Rattle.halo_model.specs.Columns.{ColumnBasis, column_c_by, column_m_by, sum_from, width_c_by, width_m_by}
use Rattle.halo_columns.specs.declared.entry.TheConstants.{GREATEST_DISCOUNTED}
use Rattle.halo_columns.specs.declared.column.TheConstants.{MOST_AGES}
use Rattle.halo_columns.specs.declared.entry.Counted.{Counted}
use Rattle.halo_columns.specs.Entries.{AreEntries, counted, counted_width}
use Rattle.halo_columns.specs.Set.{SummedOnce, SummedTwice, no_columns}

-- the column that counts some lives, its sums, and the sums of these
pub record IsSummedTwice (c : ColumnBasis) (what : Counted) (t : SummedTwice) : Type 0 where
  pub discounted : AreEntries c (counted c what) (counted_width c what) GREATEST_DISCOUNTED
      t.discounted
  pub sums : AreEntries c (sum_from c (counted c what)) (sum_from c (counted_width c what))
      (MOST_AGES * GREATEST_DISCOUNTED) t.sums
  pub sums_of_sums : AreEntries c (sum_from c (sum_from c (counted c what)))
      (sum_from c (sum_from c (counted_width c what)))
      (MOST_AGES * (MOST_AGES * GREATEST_DISCOUNTED)) t.sums_of_sums

-- the column that counts those who leave by a cause, and its sums
pub record IsSummedOnce (c : ColumnBasis) (cause : ℕ) (t : SummedOnce) : Type 0 where
  pub discounted : AreEntries c (column_c_by c cause) (width_c_by c cause) GREATEST_DISCOUNTED
      t.discounted
  pub sums : AreEntries c (column_m_by c cause) (width_m_by c cause)
      (MOST_AGES * GREATEST_DISCOUNTED) t.sums

-- the same for each of the first n causes
pub record AreSummedByCause (c : ColumnBasis) (n : ℕ) (list : List SummedOnce) : Type 0 where
  pub full : length list ≡ n
  pub each : (j : ℕ) → j < n → IsSummedOnce c j (get_or list j no_columns)
