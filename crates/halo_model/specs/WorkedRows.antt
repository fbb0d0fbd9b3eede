-- Worked values on the basis of small tables, each told as a decimal or a fraction.
use Rattle.std.specs.Prelude.{◌≡◌, ◌*◌, nat_eq, [], ◌∷◌, get_or, Some, pos, ◌*ℤ◌}
use Rattle.halo_status.specs.Tree.{Tree, life, term, joint, last, at_least, exactly, after, more}
use Rattle.halo_status.specs.declared.pay.Kind.TheVariants.{Insurance, Due, Immediate}
use Rattle.halo_status.specs.declared.pay.Vary.TheVariants.{Increasing, Decreasing}
use Rattle.halo_contract.specs.declared.ties.Ties.TheVariants.{Even}
use Rattle.halo_model.specs.Basis.{Basis}
use Rattle.halo_model.specs.Premium.{premium_denominator, premium_numerator, reserve_denominator, reserve_numerator}
use Rattle.halo_model.specs.SmallBasis.{IsWorth, both, marked, one_cause, plain, small_basis, two_causes}

-- the three lives
abbrev pub x : Tree
x = life 0

abbrev pub y : Tree
y = life 1

abbrev pub z : Tree
z = life 2

-- the first two years
abbrev pub two_years : Tree
two_years = term 2

-- the basis with one cause
abbrev pub basis : Basis
basis = small_basis one_cause

-- annuities on one life, on joint lives and last survivors, on a term, on symmetric statuses, and a
-- reversion
pub record AnnuityRows : Type 0 where
  pub due_x : IsWorth basis (plain Due x) 13125 10000
  pub immediate_x : IsWorth basis (plain Immediate x) 3125 10000
  pub due_x_y : IsWorth basis (plain Due (joint (both x y))) 1140625 1000000
  pub due_last_x_y : IsWorth basis (plain Due (last (both x y))) 1484375 1000000
  pub due_two_years_of_x : IsWorth basis (plain Due (joint (both x two_years))) 125 100
  pub immediate_two_years_of_x : IsWorth basis
      (plain Immediate (joint (both x two_years))) 3125 10000
  pub due_x_twice : IsWorth basis (plain Due (joint (both x x))) 13125 10000
  pub due_last_x_in_x_y : IsWorth basis (plain Due (last (both x (joint (both x y))))) 13125 10000
  pub due_two_of_three : IsWorth basis
      (plain Due (at_least 2 (more x (both y z)))) 12890625 10000000
  pub due_exactly_one : IsWorth basis (plain Due (exactly 1 (both x y))) 34375 100000
  pub immediate_y_after_x : IsWorth basis (plain Immediate (after x y)) 171875 1000000

-- insurances, contingent ones too, where of two lives that leave in one year the one declared first
-- leaves first
pub record InsuranceRows : Type 0 where
  pub on_x : IsWorth basis (plain Insurance x) 34375 100000
  pub on_x_y : IsWorth basis (plain Insurance (joint (both x y))) 4296875 10000000
  pub x_first : IsWorth basis (marked 0 1 (joint (both x y))) 2890625 10000000
  pub y_first : IsWorth basis (marked 1 1 (joint (both x y))) 140625 1000000
  pub x_second : IsWorth basis (marked 0 2 (joint (both x y))) 546875 10000000
  pub x_in_two_years : IsWorth basis (marked 0 1 (joint (both x two_years))) 3125 10000
  pub two_years_of_x : IsWorth basis (marked 1 1 (joint (both x two_years))) 625 10000
  pub endowment : IsWorth basis (plain Insurance (joint (both x two_years))) 375 1000

-- pays that vary, and deferred ones
pub record VaryingRows : Type 0 where
  pub increasing_insurance : IsWorth basis
      (record (plain Insurance x) { vary = Increasing }) 46875 100000
  pub increasing_due : IsWorth basis (record (plain Due x) { vary = Increasing }) 16875 10000
  pub increasing_immediate : IsWorth basis
      (record (plain Immediate x) { vary = Increasing }) 375 1000
  pub decreasing_insurance : IsWorth basis
      (record (plain Insurance x) { vary = Decreasing 2 }) 5625 10000
  pub decreasing_term : IsWorth basis
      (record (plain Immediate two_years) { vary = Decreasing 2 }) 125 100
  pub deferred_due : IsWorth basis (record (plain Due x) { defer = 1 }) 3125 10000
  pub deferred_immediate : IsWorth basis (record (plain Immediate x) { defer = 1 }) 625 10000
  pub deferred_insurance : IsWorth basis (record (plain Insurance x) { defer = 1 }) 9375 100000
  pub deferred_increasing : IsWorth basis
      (record (plain Due x) { defer = 1; vary = Increasing }) 375 1000

-- insurances by some of two causes: by the first on x, by the second on both
pub record CauseRows : Type 0 where
  pub first_cause : IsWorth (small_basis two_causes)
      (record (plain Insurance x) { causes = Some 1 }) 1875 10000
  pub second_cause : IsWorth (small_basis two_causes)
      (record (plain Insurance (joint (both x y))) { causes = Some 2 }) 21875 100000

-- the lives of one year leave in each order with equal chance
abbrev pub even_basis : Basis
even_basis = record basis { ties = Even }

pub record EvenRows : Type 0 where
  pub x_first : IsWorth even_basis (marked 0 1 (joint (both x y))) 21484375 100000000
  pub y_first : IsWorth even_basis (marked 1 1 (joint (both x y))) 21484375 100000000
  pub x_second : IsWorth even_basis (marked 0 2 (joint (both x y))) 12890625 100000000
  pub x_first_of_three : IsWorth even_basis (marked 0 1 (joint (more x (both y z)))) 239 1536
  pub on_x_y : IsWorth even_basis (plain Insurance (joint (both x y))) 4296875 10000000

-- 1/1 in year 0, and no interest from year 1 on
abbrev pub falling_basis : Basis
falling_basis = record basis { p = λ k. get_or (1 ∷ []) k 0 }

pub record InterestRows : Type 0 where
  pub due_x : IsWorth falling_basis (plain Due x) 1375 1000

-- the premium for x in the first two years is 0.275, and the reserve at time 1 with x alive 0.1;
-- the premium for the last survivor of x and y is 33/190, and the reserve at time 1 with x alone
-- alive 3/19
pub record PremiumRows : Type 0 where
  pub premium : premium_numerator basis (plain Insurance x ∷ []) * 1000
      ≡ 275 * premium_denominator basis (joint (both x two_years))
  pub reserve : reserve_numerator basis (plain Insurance x ∷ [])
      (Some (joint (both x two_years))) 1 (λ i. nat_eq i 0) *ℤ pos 10
      ≡ pos (reserve_denominator basis (Some (joint (both x two_years))) 1 (λ i. nat_eq i 0))
  pub last_premium : premium_numerator basis (plain Insurance (last (both x y)) ∷ []) * 190
      ≡ 33 * premium_denominator basis (last (both x y))
  pub last_reserve : reserve_numerator basis (plain Insurance (last (both x y)) ∷ [])
      (Some (last (both x y))) 1 (λ i. nat_eq i 0) *ℤ pos 19
      ≡ pos 3 *ℤ pos (reserve_denominator basis (Some (last (both x y))) 1 (λ i. nat_eq i 0))
