-- One set of lives: its chance to survive a year, life by life.
use Rattle.std.proofs.Common.{◌≡◌, ℕ, zero, suc, ◌+◌, ◌*◌, ◌/◌, ◌%◌, ◌^◌, ◌<◌, List, [], ◌∷◌, length, Bool, cond, true, false, nat_eq, pos, arith, refl, ap, sym}
use Rattle.std.proofs.Math.Nat.{pow-succ', div-div-eq-div-mul}
use Rattle.halo_sums.specs.Masks.{bits, has_bit}
use Rattle.std.proofs.lemmas.Int.{ints}
use Rattle.halo_sums.specs.Sets.{in_set, size_of}
use Rattle.halo_num.specs.Ends.{Ends, fine}
use Rattle.halo_num.specs.Chance.{EnclosesChance}
use Rattle.halo_model.specs.Life.{after_first}
use Rattle.halo_model.specs.Basis.{Basis}
use Rattle.halo_model.specs.Outcome.{joint_survivors}
use Rattle.halo_annuity.specs.SetProduct.{product_in}
use Rattle.halo_annuity.specs.RunWorth.{EnclosesDiscountedSurvival}
use Rattle.halo_compile.proofs.Sums.{wider}
use Rattle.halo_compile.proofs.Coefficients.{size-within}

halved : (mask i : ℕ) → has_bit mask (suc i) ≡ has_bit (mask / 2) i
halved mask i = ap (λ k. nat_eq (k % 2) 1) (rw (pow-succ' 2 i) (sym (div-div-eq-div-mul mask 2 (2 ^ i))))

first-bit : (mask : ℕ) → has_bit mask 0 ≡ nat_eq (mask % 2) 1
first-bit mask = let e : mask / 2 ^ 0 ≡ mask = omega arith in rw e refl

-- the product and the size with one life more
module _ (f : ℕ → ℕ) where
  one-first : (b : Bool) → product_in f (b ∷ []) ≡ 1 * cond b (f 0) 1
  one-first true = omega arith
  one-first false = omega arith

pub product-more : (f : ℕ → ℕ) (n mask : ℕ)
    → product_in f (bits (suc n) mask) ≡ product_in f (bits n mask) * cond (has_bit mask n) (f n) 1
product-more f zero mask = rw (first-bit mask) (one-first f (nat_eq (mask % 2) 1))
product-more f (suc n) mask =
    rw (halved mask n) (with-first (nat_eq (mask % 2) 1) (product-more (after_first f) n (mask / 2)))
  where
    with-first : (b : Bool) → product_in (after_first f) (bits (suc n) (mask / 2))
        ≡ product_in (after_first f) (bits n (mask / 2)) * cond (has_bit (mask / 2) n) (f (suc n)) 1
        → product_in f (b ∷ bits (suc n) (mask / 2))
        ≡ product_in f (b ∷ bits n (mask / 2)) * cond (has_bit (mask / 2) n) (f (suc n)) 1
    with-first true e = rw e (omega arith)
    with-first false e = e

pub size-more : (n mask : ℕ) → size_of (bits (suc n) mask) ≡ size_of (bits n mask) + cond (has_bit mask n) 1 0
size-more zero mask = rw (first-bit mask) (one (nat_eq (mask % 2) 1))
  where
    one : (b : Bool) → size_of (b ∷ []) ≡ 0 + cond b 1 0
    one true = omega arith
    one false = omega arith
size-more (suc n) mask = rw (halved mask n) (with-first (nat_eq (mask % 2) 1) (size-more n (mask / 2)))
  where
    with-first : (b : Bool)
        → size_of (bits (suc n) (mask / 2)) ≡ size_of (bits n (mask / 2)) + cond (has_bit (mask / 2) n) 1 0
        → size_of (b ∷ bits (suc n) (mask / 2)) ≡ size_of (b ∷ bits n (mask / 2)) + cond (has_bit (mask / 2) n) 1 0
    with-first true e = omega (arith, e)
    with-first false e = e

pub chance-more : (num den : ℕ → ℕ) (n mask : ℕ) (i : Ends)
    → EnclosesChance (product_in num (bits n mask) * cond (has_bit mask n) (num n) 1)
    (product_in den (bits n mask) * cond (has_bit mask n) (den n) 1)
    (2 * size_of (bits n mask) + 2 * cond (has_bit mask n) 1 0) i
    → EnclosesChance
    (product_in num (bits (suc n) mask)) (product_in den (bits (suc n) mask)) (2 * size_of (bits (suc n) mask)) i
chance-more num den n mask i h =
    let w : 2 * size_of (bits (suc n) mask) ≡ 2 * size_of (bits n mask) + 2 * cond (has_bit mask n) 1 0 =
    omega (arith, size-more n mask) in
    rw (product-more num n mask, product-more den n mask, w) h

-- the chance of no lives
pub sure : (i : Ends) → i.lo ≡ pos fine → i.hi ≡ pos fine → EnclosesChance 1 1 0 i
sure i lo hi = record {
  encloses = record { low = omega (arith, ints, lo); high = omega (arith, ints, hi) };
  narrow = record { near = omega (arith, ints, lo, hi) };
  within = record { low = omega (arith, ints, lo); high = omega (arith, ints, hi) };
}

-- the discount of a year and the chance of a set to survive it
pub one-year : (b : Basis) (n t : ℕ) (s : List Bool) (num den : ℕ) (i : Ends) → length s ≡ n
    → EnclosesChance (b.q t * num) ((b.p t + b.q t) * den) (1 + 2 * size_of s + 1) i
    → (0 < joint_survivors t (in_set s) b.lives
    → (num ≡ joint_survivors (suc t) (in_set s) b.lives) × (den ≡ joint_survivors t (in_set s) b.lives))
    → EnclosesDiscountedSurvival b n s t i
one-year b n t s num den i long chance are = record {
  encloses = λ some. let is = are some in rw (is.0, is.1) at chance.encloses;
  narrow = wider i (1 + 2 * size_of s + 1) (2 * n + 2) (omega (arith, size-within s, long)) chance.narrow;
  within = chance.within;
}
