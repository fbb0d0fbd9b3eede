-- The worked values, by computation from the definitions.
use Rattle.std.proofs.Common.{refl}
use Rattle.halo_model.specs.Value.{denominator, numerator, total_numerator}
use Rattle.halo_model.specs.Premium.{premium_denominator, premium_numerator, reserve_denominator, reserve_numerator}
use Rattle.halo_model.specs.WorkedRows.{AnnuityRows, CauseRows, EvenRows, InsuranceRows, InterestRows, PremiumRows, VaryingRows}

pub annuity_rows : AnnuityRows
unfolding numerator denominator
annuity_rows = record {
  due_x = refl;
  immediate_x = refl;
  due_x_y = refl;
  due_last_x_y = refl;
  due_two_years_of_x = refl;
  immediate_two_years_of_x = refl;
  due_x_twice = refl;
  due_last_x_in_x_y = refl;
  due_two_of_three = refl;
  due_exactly_one = refl;
  immediate_y_after_x = refl;
}

pub insurance_rows : InsuranceRows
unfolding numerator denominator
insurance_rows = record {
  on_x = refl;
  on_x_y = refl;
  x_first = refl;
  y_first = refl;
  x_second = refl;
  x_in_two_years = refl;
  two_years_of_x = refl;
  endowment = refl;
}

pub varying_rows : VaryingRows
unfolding numerator denominator
varying_rows = record {
  increasing_insurance = refl;
  increasing_due = refl;
  increasing_immediate = refl;
  decreasing_insurance = refl;
  decreasing_term = refl;
  deferred_due = refl;
  deferred_immediate = refl;
  deferred_insurance = refl;
  deferred_increasing = refl;
}

pub cause_rows : CauseRows
unfolding numerator denominator
cause_rows = record { first_cause = refl; second_cause = refl }

pub even_rows : EvenRows
unfolding numerator denominator
even_rows = record { x_first = refl; y_first = refl; x_second = refl; x_first_of_three = refl; on_x_y = refl }

pub interest_rows : InterestRows
unfolding numerator denominator
interest_rows = record { due_x = refl }

pub premium_rows : PremiumRows
unfolding numerator denominator total_numerator premium_numerator premium_denominator reserve_numerator
    reserve_denominator
premium_rows = record { premium = refl; reserve = refl; last_premium = refl; last_reserve = refl }
