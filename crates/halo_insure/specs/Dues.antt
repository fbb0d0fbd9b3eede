-- What is due for a set of lives by the form of an insurance, apart by the sign of the
-- coefficients.
use Rattle.std.specs.Prelude.{◌≡◌, ◌⊎◌, ℕ, suc, ◌+◌, ◌*◌, ◌-◌, ◌≤◌, Bool, cond, ◌&&◌, nat_le, nat_lt, List, length, ℤ, pos, ◌-ℤ◌}
use Rattle.halo_sums.specs.Sums.{int_sum_over, sum_over}
use Rattle.halo_sums.specs.Sets.{in_set, sets, size_of}
use Rattle.halo_status.specs.Pay.{PlainPay}
use Rattle.halo_model.specs.Backward.{above_zero, below_zero}
use Rattle.halo_model.specs.Basis.{Basis, taken}
use Rattle.halo_model.specs.Chance.{IsValidInsurance}
use Rattle.halo_model.specs.Coefficient.{form}
use Rattle.halo_model.specs.Counts.{measures_of, width_count}
use Rattle.halo_model.specs.Horizon.{horizon}
use Rattle.halo_model.specs.Life.{AreLives}
use Rattle.halo_model.specs.Order.{rank_in}
use Rattle.halo_model.specs.Outcome.{joint_survivors}
use Rattle.halo_model.specs.Payment.{payment}
use Rattle.halo_model.specs.SetValue.{SomeEvents, can_fall_on_term, set_value}
use Rattle.halo_insure.specs.declared.due.Due.{Due}
use Rattle.halo_insure.specs.Leavings.{set_leavings, set_survivors}
use Rattle.halo_insure.specs.OneSet.{most_due, worth_of_dues}

-- the coefficient of a set at a time before the horizon, from which on there is none
abbrev pub coefficient_before : PlainPay → ℕ → ℕ → List Bool → ℤ
coefficient_before pay years t s = cond (nat_lt t years) (form pay t s) (pos 0)

-- whether what is due at the end of a term of n years counts: it is one of some events, and a
-- payment can fall on it
abbrev pub ends_count : PlainPay → SomeEvents → ℕ → Bool
ends_count pay events n = events.terms n && can_fall_on_term pay n

-- What is due in a year by the parts of the coefficients of one sign, for a coefficient `here` in
-- the year and `next` in the year after, where a coefficient of 1 pays so much: on a leaving by the
-- coefficient, on the end of a term, if one counts, by what it loses to the next year.
abbrev pub due_by : (ℤ → ℕ) → ℕ → Bool → ℤ → ℤ → Due
due_by part payment ends here next = record {
  on_leaving = payment * part here;
  at_end = cond ends (payment * part (here -ℤ next)) 0;
}

-- what is due for a set in year k, by its form
abbrev pub due_of : (ℤ → ℕ) → PlainPay → SomeEvents → ℕ → List Bool → ℕ → Due
due_of part pay events years s k = record {
  on_leaving = cond (nat_le pay.defer k) (payment pay (k - pay.defer) * part (form pay k s)) 0;
  at_end = cond (nat_le pay.defer k && ends_count pay events (suc k))
      (payment pay (k - pay.defer)
      * part (form pay k s -ℤ coefficient_before pay years (suc k) s))
      0;
}

-- how much is due for a set from year k on, for so many years, by both signs
abbrev pub due_by_both : PlainPay → SomeEvents → ℕ → List Bool → ℕ → ℕ → ℕ
due_by_both pay events years s k more =
    most_due (due_of above_zero pay events years s) k more
    + most_due (due_of below_zero pay events years s) k more

-- The widths of all sets together are within the count: a set of s lives has chances of a year at
-- most 4s wide, so each year widens its value by at most 4s + 3 for each payment that is due.
abbrev pub SetsWithinCount : Type 0
SetsWithinCount = (b : Basis) (pay : PlainPay)
    → IsValidInsurance pay → pay.amount ≡ 1 → (events : SomeEvents) (T : ℕ)
    → sum_over (sets (length b.lives)) (λ s.
    (horizon b.lives pay.body - T)
    * ((4 * size_of s + 3)
    * due_by_both pay events (horizon b.lives pay.body) s T (horizon b.lives pay.body - T)))
    ≤ width_count (measures_of b pay)

-- from the horizon on a set has no coefficient, or nobody of it is left
abbrev pub NothingAfter : Basis → PlainPay → List Bool → Type 0
NothingAfter b pay s = (t : ℕ) → horizon b.lives pay.body ≤ t
    → (form pay t s ≡ pos 0) ⊎ (joint_survivors t (in_set s) b.lives ≡ 0)

-- so it is of each insurance that a contract may have
abbrev pub NothingIsDueAfter : Type 0
NothingIsDueAfter = (b : Basis) → AreLives b.lives
    → (pay : PlainPay) → IsValidInsurance pay → (s : List Bool) → length s ≡ length b.lives
    → NothingAfter b pay s

-- the value at T of what is due for a set by the parts of one sign, up to the horizon
abbrev pub set_worth : (ℤ → ℕ) → Basis → PlainPay → SomeEvents → ℕ → List Bool → ℕ
set_worth part b pay events T s =
    worth_of_dues b (set_leavings b pay events s) (set_survivors b s)
    (due_of part pay events (horizon b.lives pay.body) s) T (horizon b.lives pay.body - T)

-- the value for a set, summed over the orders taken: what its coefficients above 0 are worth, less
-- what those below 0 are
abbrev pub SetValueIsWorth : Type 0
SetValueIsWorth = (b : Basis)
    → AreLives b.lives → (pay : PlainPay) → IsValidInsurance pay → (events : SomeEvents)
    → (T : ℕ) → horizon b.lives pay.body ≤ b.last_time → (s : List Bool) → length s ≡ length b.lives
    → int_sum_over (taken b) (λ order. set_value b pay events (rank_in order) T s)
    ≡ pos (set_worth above_zero b pay events T s) -ℤ pos (set_worth below_zero b pay events T s)
