-- A year back for the sets of named lives.
use Rattle.std.specs.Prelude.{◌≡◌, ℕ, cond, false, true, ℤ, pos}
use Rattle.halo_num.specs.Ends.{Ends}
use Rattle.halo_model.specs.Backward.{above_zero, below_zero}
use Rattle.halo_poly.specs.Poly.{coefficient_at}
use Rattle.halo_life.specs.Lists.{Lists, entry}
use Rattle.halo_sums.specs.Within.{is_within}
use Rattle.halo_insure.specs.declared.sets.Year.{Year}
use Rattle.halo_insure.specs.Dues.{due_by}
use Rattle.halo_insure.specs.OneSet.{GoesBack}

-- the coefficient of a set in the year after, and 0 where the form does not go on
abbrev pub next_coefficient : {m : ℕ} → Year m → ℕ → ℤ
next_coefficient year mask = cond year.goes_on (coefficient_at year.next.now mask) (pos 0)

-- a value of a set is carried back by a year, with what is due by the parts of its coefficients of
-- one sign
abbrev pub SetGoesBack : {m : ℕ} → (ℤ → ℕ) → Year m → Lists → ℕ → Ends → Ends → Type 0
SetGoesBack part year before mask later result =
    GoesBack later (entry before.leavings mask) (entry before.survivals mask) year.discount
    (due_by part year.pays.payment year.pays.ends
    (coefficient_at year.here.now mask) (next_coefficient year mask)) result

-- so it is with both values of each set within `named`, and those of all other sets stay
pub record SetsGoBack {m : ℕ} (year : Year m) (named : ℕ) (before after : Lists) : Type 0 where
  pub plus : (mask : ℕ) → is_within mask named ≡ true
      → SetGoesBack above_zero year before mask (entry before.plus mask) (entry after.plus mask)
  pub minus : (mask : ℕ) → is_within mask named ≡ true
      → SetGoesBack below_zero year before mask (entry before.minus mask) (entry after.minus mask)
  pub others : (mask : ℕ) → is_within mask named ≡ false
      → (entry after.plus mask ≡ entry before.plus mask)
      × (entry after.minus mask ≡ entry before.minus mask)
