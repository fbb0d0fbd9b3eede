-- Lines, rows and tables, one after another.
use Rattle.std.proofs.Common.{◌≡◌, ℕ, suc, ◌+◌, ◌-◌, ◌<◌, ◌≤◌, ◌++◌, List, append_assoc, append-nil, arith, sym, ◌∙◌}
use Rattle.std.specs.Prelude.{flat_map}
use Rattle.halo_sample.specs.Contract.{lines_from}
use Rattle.halo_sample.specs.declared.tables.TheConstants.{LAST_AGE}
use Rattle.halo_sample.specs.Generator.{state_behind_pairs, state_behind_two}
use Rattle.halo_sample.specs.Tables.{drawn_row, last_row, row_line, rows_from, staying, table_text, tables_from}

module _ (i end s : ℕ) (before all : List ℕ) where
  -- where a line is written, the lines that are left are those behind it
  pub next-line : (line : ℕ → ℕ → List ℕ) (number : ℕ) → i < end
      → before ++ lines_from line (end - i) number s ≡ all
      → (before ++ line number s) ++ lines_from line (end - (i + 1)) (number + 1) (state_behind_two s) ≡ all
  unfolding lines_from
  next-line line number more so_far =
      let left : end - i ≡ suc (end - (i + 1)) = omega arith in
      let next : number + 1 ≡ suc number = omega arith in
      rw (next, append_assoc before (line number s) (lines_from line (end - (i + 1)) (suc number) (state_behind_two s)))
      (rw left at so_far)

  pub last-line : (line : ℕ → ℕ → List ℕ) (number : ℕ) → end ≤ i
      → before ++ lines_from line (end - i) number s ≡ all → before ≡ all
  unfolding lines_from
  last-line line number past so_far =
      let none : end - i ≡ 0 = omega arith in
      sym (append-nil before) ∙ (rw none at so_far)

  -- and so for the rows of a table
  pub next-row : (table l : ℕ) → i < end
      → before ++ flat_map (row_line table) (rows_from (end - i) i l s) ≡ all
      → (before ++ row_line table (drawn_row i l s))
      ++ flat_map (row_line table)
      (rows_from (end - (i + 1)) (i + 1) (staying (drawn_row i l s)) (state_behind_two s)) ≡ all
  unfolding rows_from
  next-row table l more so_far =
      let left : end - i ≡ suc (end - suc i) = omega arith in
      let next : i + 1 ≡ suc i = omega arith in
      let rest = rows_from (end - suc i) (suc i) (staying (drawn_row i l s)) (state_behind_two s) in
      rw (next, append_assoc before (row_line table (drawn_row i l s)) (flat_map (row_line table) rest))
      (rw left at so_far)

  pub last-of-rows : (table l : ℕ) → end ≤ i
      → before ++ flat_map (row_line table) (rows_from (end - i) i l s) ≡ all
      → before ++ row_line table (last_row l) ≡ all
  unfolding rows_from
  last-of-rows table l past so_far =
      let none : end - i ≡ 0 = omega arith in
      rw (append-nil (row_line table (last_row l))) at (rw none at so_far)

  -- and for the tables
  pub next-table : i < end → before ++ tables_from (end - i) i s ≡ all
      → (before ++ table_text i s) ++ tables_from (end - (i + 1)) (i + 1) (state_behind_pairs LAST_AGE s) ≡ all
  unfolding tables_from
  next-table more so_far =
      let left : end - i ≡ suc (end - suc i) = omega arith in
      let next : i + 1 ≡ suc i = omega arith in
      let rest = tables_from (end - suc i) (suc i) (state_behind_pairs LAST_AGE s) in
      rw (next, append_assoc before (table_text i s) rest) (rw left at so_far)

  pub last-table : end ≤ i → before ++ tables_from (end - i) i s ≡ all → before ≡ all
  unfolding tables_from
  last-table past so_far =
      let none : end - i ≡ 0 = omega arith in
      sym (append-nil before) ∙ (rw none at so_far)
