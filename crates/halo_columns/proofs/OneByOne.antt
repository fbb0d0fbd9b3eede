-- A column, entry by entry.
use Rattle.std.proofs.Common.{◌≡◌, ℕ, ◌+◌, ◌-◌, ◌<◌, ◌≤◌, ◌++◌, List, [], ◌∷◌, get_or, length, length-append, arith, refl, ◌∙◌, ⊎_elim, pos}
use Rattle.std.proofs.lemmas.Bool.{cases_lt}
use Rattle.std.proofs.lemmas.List.{get_or_append_left}
use Rattle.std.proofs.Math.Seq.{get_or-append_seam}
use Rattle.halo_num.specs.Ends.{Ends, IsWithin}
use Rattle.halo_table.specs.DecrementTable.{first_age_of, last_age_of}
use Rattle.halo_model.specs.Columns.{ColumnBasis, end_age}
use Rattle.halo_columns.specs.Entries.{AreEntries, AreSized, IsEntry, zero_entry}

-- a list has the entries of the last n ages
pub record HasEntries (c : ColumnBasis) (entry width : ℕ → ℕ) (most n : ℕ) (column : List Ends) : Type 0 where
  pub count : length column ≡ n
  pub each : (k : ℕ) → k < n
      → IsEntry c (entry (last_age_of c.file c.table - k)) (width (last_age_of c.file c.table - k)) most
      (get_or column k zero_entry)

-- a list of n entries, each from 0 to most
pub record IsBegun (most n : ℕ) (column : List Ends) : Type 0 where
  pub count : length column ≡ n
  pub sized : AreSized most column

pub none-begun : (most : ℕ) → IsBegun most 0 []
none-begun most = record { count = refl; sized = record { each = λ k before. absurd (omega arith) } }

pub one-begun : (most n : ℕ) (column : List Ends) (i : Ends) → IsBegun most n column → IsWithin i (pos 0) (pos most)
    → IsBegun most (n + 1) (column ++ i ∷ [])
one-begun most n column i so_far new =
    let size : length column ≡ n = so_far.count in
    let longer : length (column ++ i ∷ []) ≡ n + 1 = length-append column (i ∷ []) ∙ omega (arith, size) in
    let at_end : get_or (column ++ i ∷ []) n zero_entry ≡ i = rw size at (get_or-append_seam column i [] zero_entry) in
    record {
      count = longer;
      sized = record {
        each = λ k before.
            ⊎_elim
            (λ (q : k < n). rw (get_or_append_left column (i ∷ []) zero_entry k (omega arith))
            (so_far.sized.each k (omega arith)))
            (λ (q : n ≤ k). let e : k ≡ n = omega (arith, longer) in rw (e, at_end) new)
            (cases_lt k n);
      };
    }

module _ (c : ColumnBasis) (entry width : ℕ → ℕ) (most : ℕ) where
  pub none-yet : HasEntries c entry width most 0 []
  none-yet = record { count = refl; each = λ k before. absurd (omega arith) }

  pub one-more : (n : ℕ) (column : List Ends) (i : Ends) → HasEntries c entry width most n column
      → IsEntry c (entry (last_age_of c.file c.table - n)) (width (last_age_of c.file c.table - n)) most i
      → HasEntries c entry width most (n + 1) (column ++ i ∷ [])
  one-more n column i so_far new =
      let size : length column ≡ n = so_far.count in
      let at_end : get_or (column ++ i ∷ []) n zero_entry ≡ i
      = rw size at (get_or-append_seam column i [] zero_entry) in
      record {
        count = length-append column (i ∷ []) ∙ omega (arith, size);
        each = λ k before.
            ⊎_elim
            (λ (q : k < n). rw (get_or_append_left column (i ∷ []) zero_entry k (omega arith)) (so_far.each k q))
            (λ (q : n ≤ k). let e : k ≡ n = omega arith in rw (e, at_end) new)
            (cases_lt k n);
      }

  pub all-there : (n : ℕ) (column : List Ends) → n + first_age_of c.file c.table ≡ end_age c
      → HasEntries c entry width most n column → AreEntries c entry width most column
  all-there n column full has =
      record { full = omega (arith, has.count); each = λ k before. has.each k (omega (arith, has.count)) }
