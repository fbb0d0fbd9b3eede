-- Columns with their sums, and all columns of a table.
use Rattle.std.proofs.Common.{◌≡◌, ℕ, ◌+◌, ◌*◌, ◌-◌, ◌<◌, ◌≤◌, ◌++◌, List, [], ◌∷◌, get_or, length, length-append, arith, refl, ◌∙◌, ⊎_elim}
use Rattle.std.proofs.lemmas.Bool.{cases_lt}
use Rattle.std.proofs.lemmas.Int.{ints}
use Rattle.std.proofs.lemmas.List.{get_or_append_left}
use Rattle.std.proofs.Math.Seq.{get_or-append_seam}
use Rattle.halo_num.specs.Ends.{Ends}
use Rattle.halo_table.specs.DecrementTable.{last_age_of}
use Rattle.halo_model.specs.Columns.{ColumnBasis, column_c_by, sum_from, width_c_by}
use Rattle.halo_columns.specs.declared.entry.TheConstants.{GREATEST_DISCOUNTED}
use Rattle.halo_columns.specs.declared.column.TheConstants.{MOST_AGES}
use Rattle.halo_columns.specs.declared.set.TheConstants.{GREATEST_ENTRY}
use Rattle.halo_columns.specs.declared.entry.Counted.{Counted}
use Rattle.halo_columns.specs.declared.entry.Counted.TheVariants.{Leavers, Survivors}
use Rattle.halo_columns.specs.Entries.{AreEntries, AreSums, counted, counted_width}
use Rattle.halo_columns.specs.Set.{ColumnLists, EnclosesColumn, EnclosesColumns, SummedOnce, no_columns}
use Rattle.halo_columns.specs.Summed.{AreSummedByCause, IsSummedOnce, IsSummedTwice}
use Rattle.halo_columns.proofs.Sums.{sums-are-entries}

pub summed-twice : (c : ColumnBasis) (what : Counted) (discounted sums more : List Ends) → length discounted ≤ MOST_AGES
    → AreEntries c (counted c what) (counted_width c what) GREATEST_DISCOUNTED discounted
    → AreSums discounted sums → AreSums sums more
    → IsSummedTwice c what (record { discounted = discounted; sums = sums; sums_of_sums = more })
summed-twice c what discounted sums more few entries are again =
    let once = sums-are-entries c (counted c what) (counted_width c what) GREATEST_DISCOUNTED discounted sums few
    entries are in
    record {
      discounted = entries;
      sums = once;
      sums_of_sums = sums-are-entries c (sum_from c (counted c what)) (sum_from c (counted_width c what))
          (MOST_AGES * GREATEST_DISCOUNTED) sums more (omega (arith, are.full)) once again;
    }

pub summed-once : (c : ColumnBasis) (cause : ℕ) (discounted sums : List Ends) → length discounted ≤ MOST_AGES
    → AreEntries c (column_c_by c cause) (width_c_by c cause) GREATEST_DISCOUNTED discounted
    → AreSums discounted sums → IsSummedOnce c cause (record { discounted = discounted; sums = sums })
summed-once c cause discounted sums few entries are =
    record {
      discounted = entries;
      sums = sums-are-entries c (column_c_by c cause) (width_c_by c cause) GREATEST_DISCOUNTED discounted sums few
          entries are;
    }

module _ (c : ColumnBasis) where
  pub no-cause : AreSummedByCause c 0 []
  no-cause = record { full = refl; each = λ j before. absurd (omega arith) }

  pub one-cause-more : (n : ℕ) (list : List SummedOnce) (t : SummedOnce) → AreSummedByCause c n list
      → IsSummedOnce c n t → AreSummedByCause c (n + 1) (list ++ t ∷ [])
  one-cause-more n list t so_far new =
      let size : length list ≡ n = so_far.full in
      let at_end : get_or (list ++ t ∷ []) n no_columns ≡ t = rw size at (get_or-append_seam list t [] no_columns) in
      record {
        full = length-append list (t ∷ []) ∙ omega (arith, size);
        each = λ j before.
            ⊎_elim
            (λ (q : j < n). rw (get_or_append_left list (t ∷ []) no_columns j (omega arith)) (so_far.each j q))
            (λ (q : n ≤ j). let e : j ≡ n = omega arith in rw (e, at_end) new)
            (cases_lt j n);
      }

  -- the list of a column has its entry at each age of the table
  column-encloses : (set : ColumnLists) → set.last_age ≡ last_age_of c.file c.table → (entry width : ℕ → ℕ) (most : ℕ)
      → most ≤ GREATEST_ENTRY → (list : List Ends)
      → AreEntries c entry width most list → EnclosesColumn c set entry width list
  column-encloses set ages entry width most small list entries x from to =
      let k : ℕ = last_age_of c.file c.table - x in
      let age : last_age_of c.file c.table - k ≡ x = omega arith in
      let e = rw age at (entries.each k (omega (arith, entries.full))) in
      rw ages (record {
        encloses = e.encloses;
        narrow = e.narrow;
        within = record { low = e.within.low; high = omega (arith, ints, e.within.high, small) };
      })

  pub columns-enclosed : (set : ColumnLists) → set.last_age ≡ last_age_of c.file c.table
      → IsSummedTwice c Survivors set.survivors → IsSummedTwice c Leavers set.leavers
      → AreSummedByCause c (length c.file.causes) set.by_cause → EnclosesColumns c set
  columns-enclosed set ages survivors leavers causes = record {
    ages = ages;
    causes = causes.full;
    d = column-encloses set ages _ _ _ (omega arith) _ survivors.discounted;
    n = column-encloses set ages _ _ _ (omega arith) _ survivors.sums;
    s = column-encloses set ages _ _ _ (omega arith) _ survivors.sums_of_sums;
    c_all = column-encloses set ages _ _ _ (omega arith) _ leavers.discounted;
    m = column-encloses set ages _ _ _ (omega arith) _ leavers.sums;
    r = column-encloses set ages _ _ _ (omega arith) _ leavers.sums_of_sums;
    c_by = λ j known. column-encloses set ages _ _ GREATEST_DISCOUNTED (omega arith) _ (causes.each j known).discounted;
    m_by = λ j known. column-encloses set ages _ _ (MOST_AGES * GREATEST_DISCOUNTED) (omega arith) _
        (causes.each j known).sums;
  }
