-- Worked second moments, told in the parts of which the survivors of the lives times the square of
-- 1 accumulated are the whole.
use Rattle.std.specs.Prelude.{◌≡◌, ℕ, ◌*◌}
use Rattle.halo_status.specs.Tree.{joint}
use Rattle.halo_status.specs.Pay.{PlainPay}
use Rattle.halo_status.specs.declared.pay.Kind.TheVariants.{Insurance}
use Rattle.halo_model.specs.Basis.{accumulated}
use Rattle.halo_contract.specs.Premium.{all_lives}
use Rattle.halo_model.specs.SecondMoment.{second_moment}
use Rattle.halo_model.specs.SmallBasis.{both, marked, plain}
use Rattle.halo_model.specs.Value.{denominator}
use Rattle.halo_model.specs.WorkedRows.{basis, two_years, x, y}

-- at the start the second moment of a pay is the fraction num / den
abbrev pub HasSecondMoment : PlainPay → ℕ → ℕ → Type 0
HasSecondMoment pay num den = second_moment basis pay 0 all_lives * den
    ≡ num * (denominator basis 0 all_lives * accumulated basis 0)

-- on x: 1/2 of 1/4, 1/4 of 1/16 and 1/4 of 1/64; in two years: 1/2 of 1/4 and 1/2 of 1/16; as the
-- first of x and y: 1/2, 1/8 and 1/16 of the three
pub record MomentRows : Type 0 where
  pub on_x : HasSecondMoment (plain Insurance x) 14453125 100000000
  pub endowment : HasSecondMoment (plain Insurance (joint (both x two_years))) 15625 100000
  pub x_first : HasSecondMoment (marked 0 1 (joint (both x y))) 137 1024
