-- The coefficients of sets: how large they are, and that they do not see the amount of a pay.
use Rattle.std.proofs.Common.{◌≡◌, ℕ, ◌+◌, ◌-◌, ◌^◌, ◌<◌, ◌≤◌, List, [], ◌∷◌, length, Bool, true, false, ℤ, pos, negsuc, arith, refl, ◌∙◌}
use Rattle.std.proofs.Math.Nat.{pow-le-pow_right}
use Rattle.std.proofs.lemmas.Int.{ints}
use Rattle.halo_sums.specs.Masks.{bits}
use Rattle.halo_sums.specs.Sets.{in_set, size_of}
use Rattle.halo_sums.proofs.Bounds.{coefficients-bounded}
use Rattle.halo_num.specs.Ends.{IsSized}
use Rattle.halo_status.specs.Pay.{PlainPay}
use Rattle.halo_status.specs.View.{is_on}
use Rattle.halo_model.specs.Backward.{above_zero, below_zero}
use Rattle.halo_model.specs.Coefficient.{exists_by_mark, form, view_of}
use Rattle.halo_model.specs.Counts.{size}
use Rattle.halo_model.specs.Enclosed.{of_one}
use Rattle.halo_poly.specs.Poly.{coefficient_at}
use Rattle.halo_compile.specs.Form.{IsPolyOf}
use Rattle.halo_compile.proofs.Times.{coefficients-by-mask}

-- a set has no more lives than there are
pub size-within : (s : List Bool) → size_of s ≤ length s
size-within [] = omega arith
size-within (true ∷ s) = omega (arith, size-within s)
size-within (false ∷ s) = omega (arith, size-within s)

-- the coefficient of a set of at most twelve lives
pub coefficient-sized : (pay : PlainPay) (t : ℕ) (s : List Bool) → length s ≤ 12 → IsSized (form pay t s) (2 ^ 11)
unfolding form
coefficient-sized pay t s few =
    let bound =
    coefficients-bounded (λ u. exists_by_mark pay.mark pay.body (in_set u) (is_on (view_of pay.kind) t)) s in
    let less : size_of s - 1 ≤ 11 = omega (arith, few, size-within s) in
    let power : 2 ^ (size_of s - 1) ≤ 2 ^ 11 = pow-le-pow_right (omega arith) less in
    record { low = omega (arith, ints, bound.0, power); high = omega (arith, ints, bound.1, power) }

-- and each of its two parts is no larger
pub above-sized : (z : ℤ) (n : ℕ) → IsSized z n → above_zero z ≤ n
above-sized (pos m) n h = omega (arith, ints, h.high)
above-sized (negsuc m) n h = omega arith

pub below-sized : (z : ℤ) (n : ℕ) → IsSized z n → below_zero z ≤ n
below-sized (pos m) n h = omega arith
below-sized (negsuc m) n h = omega (arith, ints, h.low)

-- together they are its size
pub parts-size : (z : ℤ) → above_zero z + below_zero z ≡ size z
parts-size (pos m) = omega arith
parts-size (negsuc m) = omega arith

-- the form of a pay does not see its amount
pub form-of-one : (pay : PlainPay) (t : ℕ) (s : List Bool) → form pay t s ≡ form (of_one pay) t s
unfolding form
form-of-one pay t s = refl

-- the coefficients of the polynomial of a time, for amount 1
pub coefficients-of-one : (pay : PlainPay) (n t : ℕ) (p : List ℤ)
    → IsPolyOf pay n t p → (mask : ℕ) → mask < 2 ^ n → coefficient_at p mask ≡ form (of_one pay) t (bits n mask)
coefficients-of-one pay n t p is mask below = coefficients-by-mask pay n t p is mask below
    ∙ form-of-one pay t (bits n mask)
