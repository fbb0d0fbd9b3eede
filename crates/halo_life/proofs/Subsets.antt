-- Sets as masks, a life taken out.
use Rattle.std.proofs.Common.{◌≡◌, ℕ, zero, suc, ◌*◌, ◌-◌, ◌/◌, ◌%◌, ◌^◌, ◌<◌, ◌≤◌, arith, refl, ap, sym, ◌∙◌, List, [], ◌∷◌, set, Bool, true, false, not, ◌&&◌, nat_eq}
use Rattle.std.proofs.Math.Nat.{pow-suc, pow-succ', div-div-eq-div-mul}
use Rattle.std.proofs.Math.Path.{fun_ext}
use Rattle.std.proofs.lemmas.Bool.Decides.{nat_tests}
use Rattle.halo_sums.specs.Sets.{in_set}
use Rattle.halo_sums.specs.Masks.{bits, has_bit}
use Rattle.halo_sums.proofs.Masks.{has_bit-bits}
use Rattle.halo_model.specs.EvenTies.{without}

one-bit : (r : ℕ) → nat_eq r 1 ≡ true → r ≡ 1
one-bit r e = grind (arith, nat_tests, e)

-- a mask with a bit is at least the bit's power
pub bit-most : (mask i : ℕ) → has_bit mask i ≡ true → 2 ^ i ≤ mask
bit-most mask i e = least (2 ^ i) mask (one-bit (mask / 2 ^ i % 2) e)
  where
    least : (p mask : ℕ) → mask / p % 2 ≡ 1 → p ≤ mask
    least p mask e = grind (arith, e)

halved : (m i : ℕ) → m / 2 ^ suc i ≡ m / 2 / 2 ^ i
halved m i = rw (pow-succ' 2 i) (sym (div-div-eq-div-mul m 2 (2 ^ i)))

-- a bit taken off a mask is a number taken out of the set
pub bits-less : (n mask b : ℕ) → b < n → has_bit mask b ≡ true → bits n (mask - 2 ^ b) ≡ set (bits n mask) b false
bits-less zero mask b h e = absurd (omega arith)
bits-less (suc n) mask zero h e =
    let odd : mask % 2 ≡ 1 = one-bit (mask % 2) (whole mask e) in
    let even : (mask - 2 ^ 0) % 2 ≡ 0 = omega arith in
    let same : (mask - 2 ^ 0) / 2 ≡ mask / 2 = omega arith in
    rw (even, same) refl
  where
    whole : (m : ℕ) → nat_eq (m / 2 ^ 0 % 2) 1 ≡ true → nat_eq (m % 2) 1 ≡ true
    whole m e = let f : m / 2 ^ 0 ≡ m = omega arith in rw f at e
bits-less (suc n) mask (suc b) h e =
    let here : has_bit (mask / 2) b ≡ true = ap (λ k. nat_eq (k % 2) 1) (sym (halved mask b)) ∙ e in
    let most : 2 ^ b ≤ mask / 2 = bit-most (mask / 2) b here in
    let twice : 2 ^ suc b ≡ 2 * 2 ^ b = pow-suc 2 b ∙ omega arith in
    let rest : (mask - 2 ^ suc b) % 2 ≡ mask % 2 = omega arith in
    let half : (mask - 2 ^ suc b) / 2 ≡ mask / 2 - 2 ^ b = omega arith in
    rw (rest, half) (ap (λ s. nat_eq (mask % 2) 1 ∷ s) (bits-less n (mask / 2) b (omega arith) here))

and-not : (c : Bool) → false ≡ (c && not true)
and-not true = refl
and-not false = refl

kept : (c t : Bool) → t ≡ false → c ≡ (c && not t)
kept true t e = rw e refl
kept false t e = refl

apart : (i : ℕ) → nat_eq (suc i) 0 ≡ false
apart i = grind (arith, nat_tests)

apart-back : (i : ℕ) → nat_eq 0 (suc i) ≡ false
apart-back i = grind (arith, nat_tests)

next : (i b : ℕ) → nat_eq i b ≡ nat_eq (suc i) (suc b)
next i b = grind (arith, nat_tests)

in_set-less : (s : List Bool) (b i : ℕ) → in_set (set s b false) i ≡ (in_set s i && not (nat_eq i b))
in_set-less [] b i = refl
in_set-less (c ∷ s) zero zero = and-not c
in_set-less (c ∷ s) zero (suc i) = kept (in_set s i) (nat_eq (suc i) 0) (apart i)
in_set-less (c ∷ s) (suc b) zero = kept c (nat_eq 0 (suc b)) (apart-back b)
in_set-less (c ∷ s) (suc b) (suc i) = in_set-less s b i ∙ ap (λ t. in_set s i && not t) (next i b)

-- the set of a mask with a bit taken off
pub without-bit : (n mask b : ℕ)
    → b < n → has_bit mask b ≡ true → in_set (bits n (mask - 2 ^ b)) ≡ without (in_set (bits n mask)) b
without-bit n mask b h e = rw (bits-less n mask b h e) (fun_ext (in_set-less (bits n mask) b))

pub has-bit : (n mask b : ℕ) → b < n → (c : Bool) → has_bit mask b ≡ c → in_set (bits n mask) b ≡ c
has-bit n mask b h c e = sym (has_bit-bits n mask b h) ∙ e
