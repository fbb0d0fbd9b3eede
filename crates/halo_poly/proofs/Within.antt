-- The masks that lie within the mask of a set are the masks of its subsets.
use Rattle.std.proofs.Common.{◌≡◌, ℕ, zero, suc, ◌+◌, ◌*◌, ◌/◌, ◌%◌, ◌^◌, ◌<◌, arith, refl, ap, sym, ◌∙◌, List, [], ◌∷◌, length, Bool, true, false, cond, not, ◌&&◌, ◌||◌, nat_eq, bit_and, ℤ, pos}
use Rattle.std.proofs.Math.Nat.{pow-suc}
use Rattle.std.proofs.lemmas.Nat.{and_le_l}
use Rattle.std.proofs.lemmas.Int.{ints}
use Rattle.std.proofs.lemmas.Bool.Decides.{nat_tests}
use Rattle.halo_sums.specs.Sums.{int_sum_over, numbers_from}
use Rattle.halo_sums.specs.Sets.{sets, subsets}
use Rattle.halo_sums.specs.Masks.{bits}
use Rattle.halo_sums.proofs.IntSums.{int_sum_over-none}
use Rattle.halo_sums.proofs.Masks.{int_sum_over-masks}
use Rattle.halo_sums.proofs.Numbers.{int_sum_over-numbers_ext}
use Rattle.halo_sums.proofs.Within.{lowest-apart}
use Rattle.halo_sums.proofs.Sets.{int_sum_over-sets, int_sum_over-subsets_with, int_sum_over-subsets_without}
use Rattle.halo_poly.specs.Poly.{coefficient_at, coefficient_of, value_on}
use Rattle.halo_poly.specs.Transform.{within}
use Rattle.halo_sums.proofs.SetMasks.{length-bits, mask_of-bits}

-- whether a set lies within another one of as many numbers
abbrev is_within : List Bool → List Bool → Bool
is_within [] s = true
is_within (b ∷ u) [] = true
is_within (b ∷ u) (a ∷ s) = (not b || a) && is_within u s

-- the sum over the sets within a set is the sum over its subsets
sum_is_within : (s : List Bool) (f : List Bool → ℤ)
    → int_sum_over (sets (length s)) (λ u. cond (is_within u s) (f u) (pos 0)) ≡ int_sum_over (subsets s) f
sum_is_within [] f = refl
sum_is_within (true ∷ s) f = omega (
  arith,
  ints,
  int_sum_over-sets (length s) (λ u. cond (is_within u (true ∷ s)) (f u) (pos 0)),
  int_sum_over-subsets_with s f,
  sum_is_within s (λ u. f (false ∷ u)),
  sum_is_within s (λ u. f (true ∷ u)),
)
sum_is_within (false ∷ s) f = omega (
  arith,
  ints,
  int_sum_over-sets (length s) (λ u. cond (is_within u (false ∷ s)) (f u) (pos 0)),
  int_sum_over-subsets_without s f,
  sum_is_within s (λ u. f (false ∷ u)),
  int_sum_over-none (sets (length s)),
)

low_bits : (x y : ℕ) → x < 2 → y < 2 → nat_eq (bit_and x y) x ≡ (not (nat_eq x 1) || nat_eq y 1)
low_bits zero zero h k = refl
low_bits zero (suc zero) h k = refl
low_bits (suc zero) zero h k = refl
low_bits (suc zero) (suc zero) h k = refl
low_bits (suc (suc x)) y h k = absurd (omega arith)
low_bits zero (suc (suc y)) h k = absurd (omega arith)
low_bits (suc zero) (suc (suc y)) h k = absurd (omega arith)

both_parts : (h l a r : ℕ) → l < 2 → r < 2 → nat_eq (h * 2 + l) (a * 2 + r) ≡ (nat_eq l r && nat_eq h a)
both_parts h l a r p q = grind (arith, nat_tests)

bits_within : (n mask set : ℕ) → mask < 2 ^ n → nat_eq (bit_and mask set) mask ≡ is_within (bits n mask) (bits n set)
bits_within zero mask set h = let none : mask ≡ 0 = omega arith in rw none refl
bits_within (suc n) mask set h =
    let high : ℕ = bit_and (mask / 2) (set / 2) in
    let low : ℕ = bit_and (mask % 2) (set % 2) in
    let whole : mask ≡ mask / 2 * 2 + mask % 2 = omega arith in
    ap (λ x. nat_eq x mask) (lowest-apart mask set)
    ∙ ap (nat_eq (high * 2 + low)) whole
    ∙ both_parts high low (mask / 2) (mask % 2) (omega (arith, and_le_l (mask % 2) (set % 2))) (omega arith)
    ∙ ap (λ b. b && nat_eq high (mask / 2)) (low_bits (mask % 2) (set % 2) (omega arith) (omega arith))
    ∙ ap (λ b. (not (nat_eq (mask % 2) 1) || nat_eq (set % 2) 1) && b)
    (bits_within n (mask / 2) (set / 2) (omega (arith, pow-suc 2 n)))

pub sum_within_set : (n : ℕ) (values p : List ℤ) (set : ℕ) (sum : ℤ) → values ≡ p → length values ≡ 2 ^ n
    → sum ≡ int_sum_over (numbers_from 0 (length values)) (within values set) → sum ≡ value_on p (bits n set)
sum_within_set n values p set sum e full is =
    is
    ∙ ap (λ q. int_sum_over (numbers_from 0 (length values)) (within q set)) e
    ∙ ap (λ m. int_sum_over (numbers_from 0 m) (within p set)) full
    ∙ int_sum_over-numbers_ext (2 ^ n) 0 (within p set) (λ mask. at_set (bits n mask))
    (λ mask from h. by_set mask (omega arith))
    ∙ int_sum_over-masks n at_set
    ∙ ap (λ k. int_sum_over (sets k) at_set) (sym (length-bits n set))
    ∙ sum_is_within (bits n set) (coefficient_of p)
  where
    at_set : List Bool → ℤ
    at_set u = cond (is_within u (bits n set)) (coefficient_of p u) (pos 0)

    by_set : (mask : ℕ) → mask < 2 ^ n → within p set mask ≡ at_set (bits n mask)
    by_set mask h =
        ap (λ b. cond b (coefficient_at p mask) (pos 0)) (bits_within n mask set h)
        ∙ ap (λ m. cond (is_within (bits n mask) (bits n set)) (coefficient_at p m) (pos 0))
        (sym (mask_of-bits n mask h))
