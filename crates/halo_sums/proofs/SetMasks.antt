-- The mask of a set, and the set of a mask.
use Rattle.std.proofs.Common.{◌≡◌, ℕ, zero, suc, ◌+◌, ◌*◌, ◌/◌, ◌%◌, ◌^◌, ◌<◌, arith, refl, ap, ◌∙◌, List, [], ◌∷◌, length, Bool, true, false, cond, nat_eq}
use Rattle.std.proofs.Math.Nat.{pow-suc}
use Rattle.std.proofs.lemmas.Bool.Decides.{nat_tests}
use Rattle.halo_sums.specs.Sets.{in_set}
use Rattle.halo_sums.specs.Masks.{bits, has_bit}
use Rattle.halo_sums.specs.SetMasks.{mask_of}
use Rattle.halo_sums.proofs.Masks.{has_bit-bits}

-- the set of the mask of a set is the set
pub bits-mask_of : (s : List Bool) → bits (length s) (mask_of s) ≡ s
bits-mask_of [] = refl
bits-mask_of (true ∷ s) =
    let r : (1 + 2 * mask_of s) % 2 ≡ 1 = omega arith in
    let q : (1 + 2 * mask_of s) / 2 ≡ mask_of s = omega arith in
    rw (r, q) (ap (λ u. true ∷ u) (bits-mask_of s))
bits-mask_of (false ∷ s) =
    let r : (0 + 2 * mask_of s) % 2 ≡ 0 = omega arith in
    let q : (0 + 2 * mask_of s) / 2 ≡ mask_of s = omega arith in
    rw (r, q) (ap (λ u. false ∷ u) (bits-mask_of s))

pub length-bits : (n mask : ℕ) → length (bits n mask) ≡ n
length-bits zero mask = refl
length-bits (suc n) mask = ap suc (length-bits n (mask / 2))

-- the lowest bit of a number
lowest : (r : ℕ) → r < 2 → cond (nat_eq r 1) 1 0 ≡ r
lowest r h = grind (arith, nat_tests)

-- the mask of the set of a mask is the mask
pub mask_of-bits : (n mask : ℕ) → mask < 2 ^ n → mask_of (bits n mask) ≡ mask
mask_of-bits zero mask h = omega arith
mask_of-bits (suc n) mask h =
    let half : mask / 2 < 2 ^ n = omega (arith, pow-suc 2 n) in
    omega (arith, lowest (mask % 2) (omega arith), mask_of-bits n (mask / 2) half)

pub mask_of-lt : (s : List Bool) → mask_of s < 2 ^ length s
mask_of-lt [] = omega arith
mask_of-lt (true ∷ s) = omega (arith, pow-suc 2 (length s), mask_of-lt s)
mask_of-lt (false ∷ s) = omega (arith, pow-suc 2 (length s), mask_of-lt s)

-- the bits of the mask of a set are its lives
pub has_bit-mask_of : (s : List Bool) (i : ℕ) → i < length s → has_bit (mask_of s) i ≡ in_set s i
has_bit-mask_of s i h = has_bit-bits (length s) (mask_of s) i h ∙ ap (λ u. in_set u i) (bits-mask_of s)
