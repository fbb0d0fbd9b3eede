-- The entries of the columns that count lives.
use Rattle.std.proofs.Common.{◌≡◌, ℕ, ◌+◌, ◌*◌, ◌-◌, ◌≤◌, arith, pos}
use Rattle.halo_num.specs.Ends.{Ends, HasWidth, IsWithin}
use Rattle.halo_num.specs.Enclosure.{Encloses}
use Rattle.halo_interest.specs.Powers.{IsPower}
use Rattle.halo_table.specs.DecrementTable.{TableFile, survivors_at, HasRow}
use Rattle.halo_table.specs.Sound.{IsSound}
use Rattle.halo_model.specs.Columns.{ColumnBasis, column_denominator, discount_power, end_age, leavers_at_age, years_of}
use Rattle.halo_model.proofs.Discounts.{discount-encloses}
use Rattle.halo_model.proofs.FromTables.{life_of-IsLife}
use Rattle.halo_columns.specs.declared.entry.TheConstants.{GREATEST_DISCOUNTED}
use Rattle.halo_columns.specs.Entries.{IsEntry}

-- the discount of t years times a count
pub discounted-entry : (c : ColumnBasis) (t count : ℕ) (power r : Ends) → t ≤ end_age c
    → IsPower c.q (λ k. c.p k + c.q k) 0 t power
    → ((n d : ℕ) → Encloses power (pos n) d → Encloses r (pos (n * count)) d)
    → ((w : ℕ) → HasWidth power w → HasWidth r (w * count)) → IsWithin r (pos 0) (pos GREATEST_DISCOUNTED)
    → IsEntry c (discount_power c t * count) (3 * t * count) GREATEST_DISCOUNTED r
unfolding discount_power column_denominator
discounted-entry c t count power r within is encloses narrow in_range = record {
  encloses = discount-encloses (years_of c) t count within r (encloses _ _ is.encloses);
  narrow = narrow (3 * t) is.narrow;
  within = in_range;
}

-- those who leave at an age are missing at the next
pub leavers-are : (file : TableFile) → IsSound file → (table age : ℕ) → HasRow file table age
    → survivors_at file table age - survivors_at file table (age + 1) ≡ leavers_at_age file table age
leavers-are file sound table age row =
    let here : age + 0 ≡ age = omega arith in
    let falls : survivors_at file table (age + 0)
    ≡ leavers_at_age file table (age + 0) + survivors_at file table (age + 1)
    = (life_of-IsLife file sound table age row.table_in row.from_first).falls 0 in
    omega (arith, rw here at falls)
