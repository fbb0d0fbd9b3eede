-- Worked forms and counts.
use Rattle.std.specs.Prelude.{◌≡◌, ℕ, ◌-◌, cond, nat_lt, [], ◌∷◌, pos, negsuc}
use Rattle.halo_status.specs.Tree.{joint, at_least, more}
use Rattle.halo_status.specs.Pay.{PlainPay}
use Rattle.halo_status.specs.declared.pay.Kind.TheVariants.{Due, Immediate}
use Rattle.halo_model.specs.Life.{PlainLife}
use Rattle.halo_contract.specs.declared.ties.Ties.TheVariants.{Declared}
use Rattle.halo_model.specs.Basis.{Basis}
use Rattle.halo_model.specs.Counts.{measures_of, width_count}
use Rattle.halo_model.specs.Horizon.{horizon}
use Rattle.halo_model.specs.Segment.{AreSegments, Run, coefficients_at}
use Rattle.halo_model.specs.SmallBasis.{IsWorth, both, marked, plain}
use Rattle.halo_model.specs.WorkedRows.{two_years, x, y, z}
use Rattle.halo_model.specs.Widths.{printed_pay_width}

-- two of three, for the sets of the three lives in the order of z, y, x: one for each pair, and
-- less two for all
abbrev pub two_of_three : PlainPay
two_of_three = plain Due (at_least 2 (more x (both y z)))

-- coefficients at a time, for the empty set, y, x, and x and y
pub record FormRows : Type 0 where
  pub two_of_three_at_0 : coefficients_at two_of_three 3 0
      ≡ pos 0 ∷ pos 0 ∷ pos 0 ∷ pos 1 ∷ pos 0 ∷ pos 1 ∷ pos 1 ∷ negsuc 1 ∷ []
  pub due_years_on : coefficients_at (plain Due (joint (both x two_years))) 2 1
      ≡ pos 0 ∷ pos 0 ∷ pos 1 ∷ pos 0 ∷ []
  pub due_years_over : coefficients_at (plain Due (joint (both x two_years))) 2 2
      ≡ pos 0 ∷ pos 0 ∷ pos 0 ∷ pos 0 ∷ []
  pub immediate_years_on : coefficients_at (plain Immediate (joint (both x two_years))) 2 2
      ≡ pos 0 ∷ pos 0 ∷ pos 1 ∷ pos 0 ∷ []
  pub immediate_years_over : coefficients_at (plain Immediate (joint (both x two_years))) 2 3
      ≡ pos 0 ∷ pos 0 ∷ pos 0 ∷ pos 0 ∷ []
  pub x_second : coefficients_at (marked 0 2 (joint (both x y))) 2 0
      ≡ pos 0 ∷ pos 0 ∷ pos 1 ∷ negsuc 0 ∷ []

-- a run of times
abbrev pub from_to : ℕ → ℕ → Run
from_to first last = record { first = first; last = last }

-- the segments on two lives through three years
pub record SegmentRows : Type 0 where
  pub due_years : AreSegments (plain Due (joint (both x two_years))) 2 3
      (from_to 0 1 ∷ from_to 2 2 ∷ [])
  pub immediate_years : AreSegments (plain Immediate (joint (both x two_years))) 2 3
      (from_to 1 2 ∷ from_to 3 3 ∷ [])
  pub x_second : AreSegments (marked 0 2 (joint (both x y))) 2 3 (from_to 0 2 ∷ [])

-- a life in a table of n of whom one leaves each year
abbrev pub even_leaver : ℕ → PlainLife
even_leaver n = record {
  years_left = n;
  causes = 1;
  survivors = λ t. n - t;
  leavers = λ k j. cond (nat_lt k n) 1 0;
}

-- two such lives, of 60 and of 50, without interest
abbrev pub long_basis : Basis
long_basis = record {
  p = λ k. 0;
  q = λ k. 1;
  last_time = 60;
  lives = even_leaver 60 ∷ even_leaver 50 ∷ [];
  ties = Declared;
}

pub record LongRows : Type 0 where
  pub horizon_of_both : horizon long_basis.lives (joint (both x y)) ≡ 60
  pub due_x_y : IsWorth long_basis (plain Due (joint (both x y))) 55675 3000
  pub count : width_count (measures_of long_basis (plain Due (joint (both x y)))) ≡ 380640
  pub width : printed_pay_width long_basis (plain Due (joint (both x y))) ≡ 3
  pub width_of_many : printed_pay_width long_basis
      (record (marked 0 1 (joint (both x y))) { amount = 100000 }) ≡ 41
