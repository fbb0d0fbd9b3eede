-- Each table of a sound file has columns that enclose it.
use Rattle.std.proofs.Common.{◌≡◌, ◌⊎◌, ◌∙◌, ℕ, zero, suc, ◌+◌, ◌*◌, ◌-◌, ◌/◌, ◌%◌, ◌<◌, ◌≤◌, ◌^◌, List, []}
use Rattle.std.proofs.Common.{◌∷◌, get_or, length, ap, arith, refl, inl, inr, pos, ◌+ℤ◌, mul-le-mul_right}
use Rattle.std.proofs.Math.Nat.{div-add-mod, div-le_of_le-mul, mul-div_cancel}
use Rattle.std.proofs.lemmas.Int.{ints}
use Rattle.std.proofs.lemmas.List.Elements.{All-get_or}
use Rattle.std.proofs.lemmas.Nat.{mul-le}
use Rattle.halo_sums.specs.Sums.{numbers_from, product_over, sum_over}
use Rattle.halo_sums.proofs.Integers.{add_mul}
use Rattle.halo_num.specs.Ends.{Ends, fine}
use Rattle.halo_table.specs.DecrementTable.{empty_table, first_age_of, last_age_of, leavers_at, row_of}
use Rattle.halo_table.specs.DecrementTable.{survivors_at, table_of}
use Rattle.halo_table.specs.Sound.{IsSound, IsSoundRow, IsSoundTable}
use Rattle.halo_table.proofs.LookUps.{leaver_in_sum, sound_row}
use Rattle.halo_model.specs.Columns.{ColumnBasis, column_denominator, discount_power, end_age, leavers_at_age}
use Rattle.halo_model.specs.Columns.{sum_from, years_of}
use Rattle.halo_model.specs.Columns.{column_c, column_c_by, column_d, column_m_by, width_c, width_c_by, width_d}
use Rattle.halo_model.specs.Columns.{width_m_by}
use Rattle.halo_model.proofs.Discounts.{accumulated-split, discounted-at_start}
use Rattle.halo_model.proofs.FromTables.{some-rows}
use Rattle.halo_model.specs.Basis.{accumulated}
use Rattle.halo_columns.specs.declared.set.TheConstants.{GREATEST_ENTRY}
use Rattle.halo_columns.specs.Entries.{IsEntry, zero_entry}
use Rattle.halo_columns.specs.Set.{ColumnLists, EnclosesColumn, EnclosesColumns, no_columns}
use Rattle.halo_columns.proofs.Discounted.{leavers-are}

-- a fraction of at most so many ones, which is whole where it may not be wide
record CanBeTold (den most n w : ℕ) : Type 0 where
  room : (1 ≤ w) ⊎ ((k : ℕ) × (n ≡ k * den))
  small : n ≤ most * den

-- sums of such fractions are such
tell-sum : (den most : ℕ) (f w : ℕ → ℕ) (count first : ℕ)
    → ((x : ℕ) → first ≤ x → x < first + count → CanBeTold den most (f x) (w x))
    → CanBeTold den (count * most) (sum_over (numbers_from first count) f) (sum_over (numbers_from first count) w)
tell-sum den most f w zero first each = record { room = inr (0, omega arith); small = omega arith }
tell-sum den most f w (suc count) first each =
    let here = each first (omega arith) (omega arith) in
    let rest = tell-sum den most f w count (suc first) (λ x from to. each x (omega arith) (omega arith)) in
    record { room = both here.room rest.room; small = omega (arith, here.small, rest.small) }
  where
    both : {m n v u : ℕ} → (1 ≤ v) ⊎ ((k : ℕ) × (m ≡ k * den)) → (1 ≤ u) ⊎ ((k : ℕ) × (n ≡ k * den))
        → (1 ≤ v + u) ⊎ ((k : ℕ) × (m + n ≡ k * den))
    both (inl a) b = inl (omega arith)
    both (inr a) (inl b) = inl (omega arith)
    both (inr (k, a)) (inr (l, b)) = inr (k + l, omega (arith, a, b))

module _ (c : ColumnBasis) (some : 1 ≤ column_denominator c) where
  -- such a fraction has an entry
  an-entry : (most n w : ℕ) → most < 10 ^ 17 → CanBeTold (column_denominator c) most n w
      → (i : Ends) × IsEntry c n w GREATEST_ENTRY i
  an-entry most n w low tell = elim tell.room [
    | inl wide ↦
        let d = column_denominator c in
        let q = n * fine / d in
        let parts : d * q + n * fine % d ≡ n * fine = div-add-mod (n * fine) d in
        let rest : n * fine % d < d = omega (arith, some) in
        let high : q ≤ most * fine = div-le_of_le-mul d (omega (arith, tell.small)) in
        let next = add_mul (pos q) (pos 1) (pos d) in (
          record { lo = pos q; hi = pos q +ℤ pos 1 },
          record {
            encloses = record { low = omega (arith, ints, parts); high = omega (arith, ints, parts, rest, next) };
            narrow = record { near = omega (arith, ints, wide) };
            within = record { low = omega (arith, ints); high = omega (arith, ints, high, low) };
          },
        )
    | inr (k, whole) ↦
        let d = column_denominator c in
        let back : k * d / d ≡ k = mul-div_cancel k some in
        let high : k * d / d ≤ most = div-le_of_le-mul d (omega (arith, tell.small, whole)) in (
          record { lo = pos (k * fine); hi = pos (k * fine) },
          record {
            encloses = record { low = omega (arith, ints, whole); high = omega (arith, ints, whole) };
            narrow = record { near = omega (arith, ints) };
            within = record { low = omega (arith, ints); high = omega (arith, ints, high, back, low) };
          },
        )
  ]

-- a list of n items, of each of which something holds at its place
at-each : {A : Type 0} (d : A) (P : ℕ → A → Type 0) (n : ℕ) (a : A) (list : List A) → P 0 a
    → ((k : ℕ) → k < n → P (suc k) (get_or list k d)) → (k : ℕ) → k < suc n → P k (get_or (a ∷ list) k d)
at-each d P n a list here later zero below = here
at-each d P n a list here later (suc k) below = later k (omega arith)

listed : {A : Type 0} (d : A) (P : ℕ → A → Type 0) (n : ℕ) → ((k : ℕ) → k < n → (a : A) × P k a)
    → (list : List A) × (length list ≡ n) × ((k : ℕ) → k < n → P k (get_or list k d))
listed d P zero each = ([], refl, λ k below. absurd (omega arith))
listed d P (suc n) each =
    let first = each 0 (omega arith) in
    let rest = listed d (λ k. P (suc k)) n (λ k below. each (suc k) (omega arith)) in
    (first.0 ∷ rest.0, ap suc rest.1, at-each d P n first.0 rest.0 first.1 rest.2)

-- what is discounted is no more than what is not
discount-le : (p q : ℕ → ℕ) (count first : ℕ)
    → product_over (numbers_from first count) q ≤ product_over (numbers_from first count) (λ k. p k + q k)
discount-le p q zero first = omega arith
discount-le p q (suc count) first = mul-le _ _ _ _ (omega arith) (discount-le p q count (suc first))

power-most : (c : ColumnBasis) (t : ℕ) → t ≤ end_age c → discount_power c t ≤ column_denominator c
unfolding discount_power column_denominator
power-most c t within = rw (discounted-at_start (years_of c) t, accumulated-split (years_of c) t within)
    (mul-le-mul_right (accumulated (years_of c) t) (discount-le c.p c.q t 0))

power-of-none : (c : ColumnBasis) → discount_power c 0 ≡ column_denominator c
unfolding discount_power column_denominator
power-of-none c = discounted-at_start (years_of c) 0 ∙ omega arith

module _ (c : ColumnBasis) where
  -- a discounted count can be told
  tell-counted : (t count : ℕ) → t ≤ end_age c → count ≤ 10 ^ 12
      → CanBeTold (column_denominator c) (10 ^ 12) (discount_power c t * count) (3 * t * count)
  tell-counted t count within low = record {
    room = room t count;
    small =
        let m = mul-le (discount_power c t) count (column_denominator c) (10 ^ 12) (power-most c t within) low in
        omega (arith, m);
  }
    where
      room : (t count : ℕ)
          → (1 ≤ 3 * t * count) ⊎ ((k : ℕ) × (discount_power c t * count ≡ k * column_denominator c))
      room zero count = inr (count, rw (power-of-none c) (omega arith))
      room (suc t) zero = inr (0, omega arith)
      room (suc t) (suc count) = inl (omega arith)

  -- a column can be told at each age of the table
  abbrev Tellable : ℕ → (ℕ → ℕ) → (ℕ → ℕ) → Type 0
  Tellable most f w = (x : ℕ) → first_age_of c.file c.table ≤ x → x < end_age c
      → CanBeTold (column_denominator c) most (f x) (w x)

  -- and so can its sums
  tell-sums : (most : ℕ) (f w : ℕ → ℕ) → end_age c ≤ 151 → Tellable most f w
      → Tellable (151 * most) (sum_from c f) (sum_from c w)
  tell-sums most f w ages each x from below =
      let s = tell-sum (column_denominator c) most f w (end_age c - x) x
      (λ y a b. each y (omega arith) (omega arith)) in
      let few : (end_age c - x) * most ≤ 151 * most = mul-le-mul_right most (omega arith) in
      let all = mul-le-mul_right (column_denominator c) few in
      record { room = s.room; small = omega (arith, s.small, all) }

  -- a list encloses a column, in each set of columns of the table
  abbrev Tells : (ℕ → ℕ) → (ℕ → ℕ) → List Ends → Type 0
  Tells f w list = (set : ColumnLists) → set.last_age ≡ last_age_of c.file c.table → EnclosesColumn c set f w list

  a-column : 1 ≤ column_denominator c → (most : ℕ) (f w : ℕ → ℕ) → most < 10 ^ 17 → Tellable most f w
      → (list : List Ends) × Tells f w list
  a-column some most f w low each =
      let last = last_age_of c.file c.table in
      let made = listed zero_entry (λ k i. IsEntry c (f (last - k)) (w (last - k)) GREATEST_ENTRY i)
      (end_age c - first_age_of c.file c.table)
      (λ k below. an-entry c some most (f (last - k)) (w (last - k)) low
      (each (last - k) (omega arith) (omega arith))) in (
        made.0,
        λ set ages x from to.
            let age : last - (last - x) ≡ x = omega arith in
            rw ages (rw age at (made.2 (last - x) (omega arith))),
      )

module _ (c : ColumnBasis) (sound : IsSound c.file) (table_in : c.table < length c.file.tables) where
  sound-table : IsSoundTable (length c.file.causes) (table_of c.file c.table)
  sound-table = All-get_or (IsSoundTable (length c.file.causes)) c.file.tables c.table empty_table table_in sound.tables

  few-ages : end_age c ≤ 151
  few-ages = omega (arith, sound-table.ages, some-rows (length c.file.causes) _ sound-table.rows)

  row-at : (x : ℕ) → first_age_of c.file c.table ≤ x → x < end_age c
      → IsSoundRow (length c.file.causes) (row_of (table_of c.file c.table) x)
  row-at x from below = sound_row (length c.file.causes) _ (x - first_age_of c.file c.table) sound-table.rows
      (omega (arith, some-rows (length c.file.causes) _ sound-table.rows))

  tell-d : Tellable c (10 ^ 12) (column_d c) (width_d c)
  tell-d x from below = tell-counted c x (survivors_at c.file c.table x) (omega arith) (row-at x from below).small

  tell-c : Tellable c (10 ^ 12) (column_c c) (width_c c)
  tell-c x from below =
      let leave = leavers-are c.file sound c.table x
      (record { table_in = table_in; from_first = from; to_last = omega arith }) in
      tell-counted c (x + 1) (leavers_at_age c.file c.table x) (omega arith)
      (omega (arith, leave, (row-at x from below).small))

  tell-c-by : (j : ℕ) → Tellable c (10 ^ 12) (column_c_by c j) (width_c_by c j)
  tell-c-by j x from below =
      let row = row-at x from below in
      tell-counted c (x + 1) (leavers_at c.file c.table x j) (omega arith)
      (omega (arith, leaver_in_sum (row_of (table_of c.file c.table) x).leavers j, row.fits, row.small))

  -- the columns of a table at an interest
  pub columns-exist : 1 ≤ column_denominator c → (set : ColumnLists) × EnclosesColumns c set
  columns-exist some =
      let sums = λ (f w : ℕ → ℕ) (each : Tellable c (10 ^ 12) f w). tell-sums c (10 ^ 12) f w few-ages each in
      let sums_of_sums = λ (f w : ℕ → ℕ) (each : Tellable c (10 ^ 12) f w).
      tell-sums c (151 * 10 ^ 12) (sum_from c f) (sum_from c w) few-ages (sums f w each) in
      let d = a-column c some _ _ _ (omega arith) tell-d in
      let n = a-column c some _ _ _ (omega arith) (sums _ _ tell-d) in
      let s = a-column c some _ _ _ (omega arith) (sums_of_sums _ _ tell-d) in
      let all = a-column c some _ _ _ (omega arith) tell-c in
      let m = a-column c some _ _ _ (omega arith) (sums _ _ tell-c) in
      let r = a-column c some _ _ _ (omega arith) (sums_of_sums _ _ tell-c) in
      let causes = listed no_columns
      (λ j t. Tells c (column_c_by c j) (width_c_by c j) t.discounted
      × Tells c (column_m_by c j) (width_m_by c j) t.sums)
      (length c.file.causes) (λ j known.
      let of_c = a-column c some _ _ _ (omega arith) (tell-c-by j) in
      let of_m = a-column c some _ _ _ (omega arith) (sums _ _ (tell-c-by j)) in
      (record { discounted = of_c.0; sums = of_m.0 }, (of_c.1, of_m.1))) in
      let set : ColumnLists = record {
        last_age = last_age_of c.file c.table;
        survivors = record { discounted = d.0; sums = n.0; sums_of_sums = s.0 };
        leavers = record { discounted = all.0; sums = m.0; sums_of_sums = r.0 };
        by_cause = causes.0;
      } in (
        set,
        record {
          ages = refl;
          causes = causes.1;
          d = d.1 set refl;
          n = n.1 set refl;
          s = s.1 set refl;
          c_all = all.1 set refl;
          m = m.1 set refl;
          r = r.1 set refl;
          c_by = λ j known. (causes.2 j known).0 set refl;
          m_by = λ j known. (causes.2 j known).1 set refl;
        },
      )
