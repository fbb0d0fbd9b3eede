-- The sums of a column enclose what its entries come to.
use Rattle.std.proofs.Common.{◌≡◌, ℕ, zero, suc, ◌+◌, ◌*◌, ◌-◌, ◌<◌, ◌≤◌, ◌++◌, List, [], ◌∷◌, get_or, length, arith, ap, refl, sym, ◌∙◌, ℤ, pos, ◌+ℤ◌, ⊎_elim, length-append, mul-le-mul_right}
use Rattle.std.proofs.lemmas.Bool.{cases_lt}
use Rattle.std.proofs.lemmas.Int.{ints}
use Rattle.std.proofs.lemmas.List.{get_or_append_left}
use Rattle.std.proofs.Math.Seq.{get_or-append_seam}
use Rattle.halo_sums.specs.Sums.{numbers_from, sum_over}
use Rattle.halo_num.specs.Ends.{Ends, IsWithin}
use Rattle.halo_num.proofs.Enclosures.{encloses_add}
use Rattle.halo_table.specs.DecrementTable.{last_age_of}
use Rattle.halo_model.specs.Columns.{ColumnBasis, column_denominator, end_age, sum_from}
use Rattle.halo_columns.specs.declared.entry.TheConstants.{GREATEST_DISCOUNTED}
use Rattle.halo_columns.specs.declared.column.TheConstants.{MOST_AGES}
use Rattle.halo_columns.specs.Entries.{AreEntries, AreSized, AreSums, IsEntry, sum_of_ends, sum_before, zero_entry}

-- nothing is the sum of no entries
no-entries : (c : ColumnBasis) → IsEntry c 0 0 0 zero_entry
no-entries c = record {
  encloses = record { low = omega (arith, ints); high = omega (arith, ints) };
  narrow = record { near = omega (arith, ints) };
  within = record { low = omega (arith, ints); high = omega (arith, ints) };
}

-- two entries together
both-entries : (c : ColumnBasis) (m n v w k l : ℕ) (a b : Ends) → IsEntry c m v k a → IsEntry c n w l b
    → IsEntry c (n + m) (w + v) (k + l) (sum_of_ends a b)
both-entries c m n v w k l a b p q =
    let order : pos m +ℤ pos n ≡ pos (n + m) = omega (arith, ints) in
    record {
      encloses = rw order
          at (encloses_add a b (sum_of_ends a b) (pos m) (pos n) (column_denominator c) refl refl p.encloses
          q.encloses);
      narrow = record { near = omega (arith, ints, p.narrow.near, q.narrow.near) };
      within = record {
        low = omega (arith, ints, p.within.low, q.within.low);
        high = omega (arith, ints, p.within.high, q.within.high);
      };
    }

-- the sum of a column from an age on: its entry there and the sum from the next age on
sum-next : (c : ColumnBasis) (f : ℕ → ℕ) (x : ℕ) → x < end_age c → sum_from c f x ≡ f x + sum_from c f (suc x)
sum-next c f x before =
    let years : end_age c - x ≡ suc (end_age c - suc x) = omega arith in ap (λ n. sum_over (numbers_from x n) f) years

sum-none : (c : ColumnBasis) (f : ℕ → ℕ) → sum_from c f (end_age c - 0) ≡ 0
sum-none c f =
    let years : end_age c - (end_age c - 0) ≡ 0 = omega arith in
    ap (λ n. sum_over (numbers_from (end_age c - 0) n) f) years

module _ (c : ColumnBasis) (entry width : ℕ → ℕ) (most : ℕ) (column sums : List Ends)
    (entries : AreEntries c entry width most column) (are : AreSums column sums) where
  before-encloses : (k : ℕ) → k ≤ length column
      → IsEntry c (sum_from c entry (end_age c - k)) (sum_from c width (end_age c - k)) (k * most) (sum_before sums k)
  before-encloses zero within =
      let none : 0 * most ≡ 0 = omega arith in rw (sum-none c entry, sum-none c width, none) (no-entries c)
  before-encloses (suc k) within =
      let x : ℕ = end_age c - suc k in
      let next : suc x ≡ end_age c - k = omega (arith, entries.full) in
      let age : last_age_of c.file c.table - k ≡ x = omega arith in
      let below : x < end_age c = omega arith in
      let here = rw age at (entries.each k (omega arith)) in
      let total : sum_from c entry x ≡ entry x + sum_from c entry (end_age c - k)
      = rw next at (sum-next c entry x below) in
      let wide : sum_from c width x ≡ width x + sum_from c width (end_age c - k)
      = rw next at (sum-next c width x below) in
      let most_of : suc k * most ≡ k * most + most = omega arith in
      rw (are.each k (omega arith), total, wide, most_of)
      (both-entries c _ _ _ _ _ _ _ _ (before-encloses k (omega arith)) here)

-- the first n sums of a column, the last of which is told
pub record IsSummed (column sums : List Ends) (n : ℕ) (sum : Ends) : Type 0 where
  pub count : length sums ≡ n
  pub each : (k : ℕ) → k < n → get_or sums k zero_entry ≡ sum_of_ends (sum_before sums k) (get_or column k zero_entry)
  pub last : sum ≡ sum_before sums n
  pub within : IsWithin sum (pos 0) (pos (n * (MOST_AGES * GREATEST_DISCOUNTED)))

ends-are : (i : Ends) (a b : ℤ) → i.lo ≡ a → i.hi ≡ b → i ≡ record { lo = a; hi = b }
ends-are i a b e f = rw (← e, ← f) refl

pub none-summed : (column : List Ends) (i : Ends) → i.lo ≡ pos 0 → i.hi ≡ pos 0 → IsSummed column [] 0 i
none-summed column i lo hi = record {
  count = refl;
  each = λ k before. absurd (omega arith);
  last = ends-are i (pos 0) (pos 0) lo hi;
  within = record { low = omega (arith, ints, lo); high = omega (arith, ints, hi) };
}

before-kept : (sums more : List Ends) (k : ℕ) → k ≤ length sums → sum_before (sums ++ more) k ≡ sum_before sums k
before-kept sums more zero within = refl
before-kept sums more (suc k) within = get_or_append_left sums more zero_entry k (omega arith)

pub one-summed : (column sums : List Ends) (n : ℕ) (sum entry next : Ends) → IsSummed column sums n sum
    → get_or column n zero_entry ≡ entry → IsWithin entry (pos 0) (pos (MOST_AGES * GREATEST_DISCOUNTED))
    → next.lo ≡ sum.lo +ℤ entry.lo → next.hi ≡ sum.hi +ℤ entry.hi → IsSummed column (sums ++ next ∷ []) (n + 1) next
one-summed column sums n sum entry next so_far here in_range lo hi =
    let size : length sums ≡ n = so_far.count in
    let new : get_or (sums ++ next ∷ []) n zero_entry ≡ next
    = rw size at (get_or-append_seam sums next [] zero_entry) in
    let more : n + 1 ≡ suc n = omega arith in
    record {
      count = length-append sums (next ∷ []) ∙ omega (arith, size);
      each = λ k before.
          ⊎_elim
          (λ (q : k < n).
          let kept = get_or_append_left sums (next ∷ []) zero_entry k (omega arith) in
          rw (kept, before-kept sums (next ∷ []) k (omega arith)) (so_far.each k q))
          (λ (q : n ≤ k).
          let e : k ≡ n = omega arith in
          rw (e, new, before-kept sums (next ∷ []) n (omega arith), ← so_far.last, here) (ends-are next _ _ lo hi))
          (cases_lt k n);
      last = rw more (sym new);
      within = record {
        low = omega (arith, ints, lo, so_far.within.low, in_range.low);
        high = omega (arith, ints, hi, so_far.within.high, in_range.high);
      };
    }

-- sums of few entries that are not large are not large
before-sized : (most : ℕ) (column sums : List Ends) → AreSized most column → AreSums column sums → (k : ℕ)
    → k ≤ length column → IsWithin (sum_before sums k) (pos 0) (pos (k * most))
before-sized most column sums sized are zero within = record { low = omega (arith, ints); high = omega (arith, ints) }
before-sized most column sums sized are (suc k) within =
    let before = before-sized most column sums sized are k (omega arith) in
    let here = sized.each k (omega arith) in
    rw (are.each k (omega arith)) (record {
      low = omega (arith, ints, before.low, here.low);
      high = omega (arith, ints, before.high, here.high);
    })

pub sums-sized : (most : ℕ) (column sums : List Ends) → length column ≤ MOST_AGES → AreSized most column
    → AreSums column sums
    → AreSized (MOST_AGES * most) sums
sums-sized most column sums few sized are = record {
  each = λ k within.
      let w = before-sized most column sums sized are (suc k) (omega (arith, are.full)) in
      let m : suc k * most ≤ MOST_AGES * most = mul-le-mul_right most (omega (arith, are.full)) in
      record { low = w.low; high = omega (arith, ints, w.high, m) };
}

-- the sums of a column's entries are the entries of its sums
pub sums-are-entries : (c : ColumnBasis) (entry width : ℕ → ℕ) (most : ℕ) (column sums : List Ends)
    → length column ≤ MOST_AGES → AreEntries c entry width most column → AreSums column sums
    → AreEntries c (sum_from c entry) (sum_from c width) (MOST_AGES * most) sums
sums-are-entries c entry width most column sums few entries are = record {
  full = omega (arith, are.full, entries.full);
  each = λ k within.
      let e = before-encloses c entry width most column sums entries are (suc k) (omega (arith, are.full)) in
      let age : end_age c - suc k ≡ last_age_of c.file c.table - k = omega arith in
      let m : suc k * most ≤ MOST_AGES * most = mul-le-mul_right most (omega (arith, are.full)) in
      let f = rw age at e in
      record {
        encloses = f.encloses;
        narrow = f.narrow;
        within = record { low = f.within.low; high = omega (arith, ints, f.within.high, m) };
      };
}
