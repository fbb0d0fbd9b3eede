-- The mask of a set, and the set of a mask.
use Rattle.std.proofs.Common.{◌≡◌, ℕ, zero, suc, ◌+◌, ◌-◌, ◌*◌, ◌/◌, ◌%◌, ◌^◌, ◌<◌, ◌≤◌, arith, refl, ap, sym, ◌∙◌, ⊎_elim, List, [], ◌∷◌, set, Bool, true, false, nat_eq}
use Rattle.std.proofs.Math.Nat.{pow-suc, pow-succ', div-div-eq-div-mul, pow-le-pow_right, div-eq_of_lt, add-div_right}
use Rattle.std.proofs.Math.Pow.{pow-lt}
use Rattle.std.proofs.lemmas.Nat.{pow_pos}
use Rattle.std.proofs.lemmas.Nat.Bits.{bit_at-zero}
use Rattle.std.proofs.lemmas.Bool.{cases_lt, false≢true}
use Rattle.std.proofs.lemmas.Bool.Decides.{nat_tests}
use Rattle.halo_sums.specs.Sets.{in_set}
use Rattle.halo_sums.specs.Masks.{has_bit}
use Rattle.halo_sums.specs.SetMasks.{CountsSets, mask_of}

-- without one of its lives
pub mask_of-without : (s : List Bool) (i : ℕ) → in_set s i ≡ true → mask_of s ≡ mask_of (set s i false) + 2 ^ i
mask_of-without [] i h = absurd (cc)
mask_of-without (true ∷ s) zero h = omega arith
mask_of-without (false ∷ s) zero h = absurd (cc)
mask_of-without (b ∷ s) (suc i) h = omega (arith, pow-suc 2 i, mask_of-without s i h)

-- a mask is at least each of its bits
pub has_bit-le : (mask i : ℕ) → has_bit mask i ≡ true → 2 ^ i ≤ mask
has_bit-le mask i h =
    ⊎_elim (λ (l : mask < 2 ^ i). let none : mask / 2 ^ i ≡ 0 = div-eq_of_lt l in absurd (false≢true (rw none at h)))
    (λ (l : 2 ^ i ≤ mask). l) (cases_lt mask (2 ^ i))

-- without one of its bits a mask has it no more
pub has_bit-cleared : (mask i : ℕ) → has_bit mask i ≡ true → has_bit (mask - 2 ^ i) i ≡ false
has_bit-cleared mask i h =
    let d : 0 < 2 ^ i = pow_pos i in
    let back : mask - 2 ^ i + 2 ^ i ≡ mask = omega (arith, has_bit-le mask i h) in
    let one_more : mask / 2 ^ i ≡ (mask - 2 ^ i) / 2 ^ i + 1 =
    ap (λ m. m / 2 ^ i) (sym back) ∙ add-div_right (mask - 2 ^ i) d in
    other_parity ((mask - 2 ^ i) / 2 ^ i) (rw one_more at h)
  where
    other_parity : (q : ℕ) → nat_eq ((q + 1) % 2) 1 ≡ true → nat_eq (q % 2) 1 ≡ false
    other_parity q e = grind (arith, nat_tests)

-- a bit among the lowest 12 is whole
pub whole : (i : ℕ) → i < 12 → 1 * 2 ^ i % 18446744073709551616 ≡ 2 ^ i
whole i h = let small : 2 ^ i < 2 ^ 12 = pow-lt h in omega arith

pub two_positive : 0 < 2
two_positive = omega arith

-- of two powers the one with the greater exponent is no smaller
pub exponent-lt : (i j : ℕ) → 2 ^ i < 2 ^ j → i < j
exponent-lt i j h =
    ⊎_elim (λ (l : i < j). l) (λ (l : j ≤ i). absurd (omega (arith, pow-le-pow_right (two_positive) l))) (cases_lt i j)

-- a bit below the number of sets is that of a life
pub life_few : (m i : ℕ) → CountsSets m → 2 ^ i < m → i < 12
life_few m i h l = let below : i < h.lives = exponent-lt i h.lives (omega (arith, h.is)) in omega (arith, h.few)

-- the number of lives is told by the number of sets
pub lives_told : (m r : ℕ) → CountsSets m → 2 ^ r ≤ m → m < 2 * 2 ^ r → (r ≤ 12) × (m ≡ 2 ^ r)
lives_told m r h low high =
    let up : h.lives < suc r = exponent-lt h.lives (suc r) (omega (arith, h.is, pow-suc 2 r)) in
    let down : r < suc h.lives =
    exponent-lt r (suc h.lives) (omega (arith, h.is, pow-suc 2 h.lives, pow_pos h.lives)) in
    let same : r ≡ h.lives = omega arith in
    (omega (arith, h.few), rw same h.is)

pub same_exponent : (i j : ℕ) → 2 ^ i ≡ 2 ^ j → i ≡ j
same_exponent i j e =
    let up : i < suc j = exponent-lt i (suc j) (omega (arith, pow-suc 2 j, pow_pos j)) in
    let down : j < suc i = exponent-lt j (suc i) (omega (arith, pow-suc 2 i, pow_pos i)) in
    omega arith

-- with a bit more
pub has_bit-more : (n mask i : ℕ) → mask < 2 ^ n → i < n → has_bit mask i ≡ false → mask + 2 ^ i < 2 ^ n
has_bit-more zero mask i h within e = absurd (omega arith)
has_bit-more (suc n) mask zero h within e =
    odd_room (mask % 2) (omega arith) (rw low at e) (omega (arith, pow-suc 2 n, pow_pos n))
  where
    low : mask / 2 ^ 0 % 2 ≡ mask % 2
    low = let q : mask / 2 ^ 0 ≡ mask = omega arith in rw q refl

    odd_room : (r : ℕ) → r ≡ mask % 2 → nat_eq r 1 ≡ false → 2 ^ suc n ≡ 2 * 2 ^ n → mask + 2 ^ 0 < 2 ^ suc n
    odd_room r q e p = let even : r ≡ 0 = odd_or_even r (omega arith) e in omega arith
      where
        odd_or_even : (r : ℕ) → r < 2 → nat_eq r 1 ≡ false → r ≡ 0
        odd_or_even r h e = grind (arith, nat_tests)
has_bit-more (suc n) mask (suc i) h within e =
    let half : has_bit (mask / 2) i ≡ false = rw (halved mask i) at e in
    omega (arith, pow-suc 2 n, pow-suc 2 i, has_bit-more n (mask / 2) i (omega (arith, pow-suc 2 n)) (omega arith) half)
  where
    halved : (m i : ℕ) → m / 2 ^ suc i ≡ m / 2 / 2 ^ i
    halved m i = rw (pow-succ' 2 i) (sym (div-div-eq-div-mul m 2 (2 ^ i)))

-- 12 lives have 4096 sets
pub few_sets : (m : ℕ) → CountsSets m → m ≤ 4096
few_sets m h = let room : 2 ^ h.lives ≤ 2 ^ 12 = pow-le-pow_right two_positive h.few in omega (arith, h.is)

pub room_for_life : (m mask i : ℕ) → CountsSets m → 2 ^ i < m → mask < m → has_bit mask i ≡ false → mask + 2 ^ i < m
room_for_life m mask i h l within e =
    rw h.is (has_bit-more h.lives mask i (omega (arith, h.is)) (exponent-lt i h.lives (omega (arith, h.is))) e)

-- the mask of the empty set has no bit
pub no_bit : (i : ℕ) → has_bit 0 i ≡ false
no_bit i = rw (bit_at-zero i) refl
