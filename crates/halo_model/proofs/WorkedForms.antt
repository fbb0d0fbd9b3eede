-- The worked forms and counts, by computation; the value of two lives through many years by its parts.
use Rattle.std.proofs.Common.{◌≡◌, ℕ, suc, ◌+◌, ◌*◌, ◌-◌, arith, refl, ap, ◌∙◌, cond, nat_lt, pos, ◌≢◌, sym, get_or, ℤ, List, zero}
use Rattle.std.proofs.lemmas.Bool.Decides.{nat_tests}
use Rattle.std.proofs.lemmas.Int.{ints}
use Rattle.halo_sums.specs.Coefficients.{coefficient}
use Rattle.halo_sums.proofs.Integers.{pos_injective}
use Rattle.halo_status.specs.Tree.{joint}
use Rattle.halo_status.specs.declared.pay.Kind.TheVariants.{Due, Immediate}
use Rattle.halo_model.specs.Life.{IsLife}
use Rattle.halo_model.specs.Coefficient.{form}
use Rattle.halo_model.specs.Counts.{width_count}
use Rattle.halo_model.specs.Horizon.{horizon}
use Rattle.halo_contract.specs.Premium.{all_lives}
use Rattle.halo_model.specs.Segment.{IsUniform}
use Rattle.halo_model.specs.SmallBasis.{both, marked, plain}
use Rattle.halo_model.specs.Value.{denominator, numerator}
use Rattle.halo_model.specs.Widths.{printed_pay_width}
use Rattle.halo_model.specs.WorkedForms.{FormRows, LongRows, SegmentRows, even_leaver, from_to, long_basis}
use Rattle.halo_model.specs.WorkedRows.{two_years, x, y}
use Rattle.halo_model.proofs.Annuities.{due-by-parts}

pub form_rows : FormRows
unfolding form coefficient
form_rows = record {
  two_of_three_at_0 = refl;
  due_years_on = refl;
  due_years_over = refl;
  immediate_years_on = refl;
  immediate_years_over = refl;
  x_second = refl;
}

-- two lists of which one has 1 for x and the other 0 are not equal
differ : (a b : List ℤ) → get_or a 2 (pos 0) ≡ pos 0 → get_or b 2 (pos 0) ≡ pos 1 → a ≢ b
differ a b zero_at one_at e =
    absurd (let q : pos 0 ≡ pos 1 = sym zero_at ∙ ap (λ l. get_or l 2 (pos 0)) e ∙ one_at in omega (arith, ints, q))

due-on : IsUniform (plain Due (joint (both x two_years))) 2 (from_to 0 1)
unfolding form coefficient
due-on zero above below = refl
due-on (suc zero) above below = refl
due-on (suc (suc t)) above below = absurd (omega arith)

due-over : IsUniform (plain Due (joint (both x two_years))) 2 (from_to 2 2)
due-over t above below = let e : t ≡ 2 = omega arith in rw e

immediate-on : IsUniform (plain Immediate (joint (both x two_years))) 2 (from_to 1 2)
unfolding form coefficient
immediate-on zero above below = absurd (omega arith)
immediate-on (suc zero) above below = refl
immediate-on (suc (suc zero)) above below = refl
immediate-on (suc (suc (suc t))) above below = absurd (omega arith)

immediate-over : IsUniform (plain Immediate (joint (both x two_years))) 2 (from_to 3 3)
immediate-over t above below = let e : t ≡ 3 = omega arith in rw e

second : IsUniform (marked 0 2 (joint (both x y))) 2 (from_to 0 2)
unfolding form coefficient
second t above below = refl

pub segment_rows : SegmentRows
unfolding form coefficient
segment_rows = record {
  due_years = (refl, omega arith, due-on, differ _ _ refl refl, (refl, omega arith, due-over));
  immediate_years = (refl, omega arith, immediate-on, differ _ _ refl refl, (refl, omega arith, immediate-over));
  x_second = (refl, omega arith, second);
}

-- one leaves each year until nobody is left
even_leaver-IsLife : (n : ℕ) → IsLife (even_leaver n)
even_leaver-IsLife n = record { falls = falls n; ends = λ k past. omega arith }
  where
    falls : (n k : ℕ) → n - k ≡ cond (nat_lt k n) 1 0 + 0 + (n - suc k)
    falls n k = grind (arith, nat_tests)

due-value : pos (numerator long_basis (plain Due (joint (both x y))) 0 all_lives) ≡ pos 55675
unfolding form coefficient
due-value =
    due-by-parts long_basis (even_leaver-IsLife 60, (even_leaver-IsLife 50, tt)) (plain Due (joint (both x y))) refl
    refl 0 all_lives ∙ refl

pub long_rows : LongRows
unfolding horizon width_count printed_pay_width form coefficient denominator
long_rows = record {
  horizon_of_both = refl;
  due_x_y = ap (λ n. n * 3000) (pos_injective _ _ due-value);
  count = refl;
  width = refl;
  width_of_many = refl;
}
