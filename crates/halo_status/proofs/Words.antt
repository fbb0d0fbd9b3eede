-- Words of 64 bits, bit by bit, and the lives of a block.
use Rattle.std.proofs.Common.{◌≡◌, ◌⊎◌, ℕ, zero, suc, ◌+◌, ◌-◌, ◌*◌, ◌/◌, ◌%◌, ◌^◌, ◌<◌, ◌≤◌, arith, refl, ap, sym, ◌∙◌, inl, inr, Bool, true, false, not, ◌&&◌, nat_eq, nat_le, pow-add}
use Rattle.std.specs.Prelude.{bit_and, min}
use Rattle.std.specs.Int.{bit_at, bit_not, w64}
use Rattle.std.proofs.lemmas.Bool.Decides.{nat_tests}
use Rattle.std.proofs.lemmas.Bool.{cases_lt}
use Rattle.std.proofs.lemmas.Nat.Bits.{bit_at-zero, bit_at_and, bit_at_not, bit_at_ones}
use Rattle.std.proofs.Math.Nat.{div-div-eq-div-mul}
use Rattle.halo_sums.specs.Masks.{has_bit}
use Rattle.halo_status.specs.Blocks.{IsInBlock}

bit_at-lt : (n i : ℕ) → bit_at n i < 2
bit_at-lt n i = omega arith

-- no bit of 0 is set, and each of the greatest word
pub has_bit-none : (j : ℕ) → has_bit 0 j ≡ false
has_bit-none j = rw (bit_at-zero j) refl

pub has_bit-all : (j : ℕ) → j < 64 → has_bit 18446744073709551615 j ≡ true
has_bit-all j h = ap (λ n. nat_eq n 1) (bit_at_ones 64 j h)

-- of two bits the lesser is 1 where both are
lesser_bit : (x y : ℕ) → x < 2 → y < 2 → nat_eq (min x y) 1 ≡ (nat_eq x 1 && nat_eq y 1)
lesser_bit x y f g = grind (arith, nat_tests)

pub has_bit-and : (a b j : ℕ) → has_bit (bit_and a b) j ≡ (has_bit a j && has_bit b j)
has_bit-and a b j = rw (bit_at_and a b j) (lesser_bit _ _ (bit_at-lt a j) (bit_at-lt b j))

other_bit : (x : ℕ) → x < 2 → nat_eq (1 - x) 1 ≡ not (nat_eq x 1)
other_bit x h = grind (arith, nat_tests)

pub has_bit-not : (a j : ℕ) → a < 2 ^ 64 → j < 64 → has_bit (bit_not w64 a) j ≡ not (has_bit a j)
has_bit-not a j small h = ap (λ n. nat_eq n 1) (bit_at_not w64 a j small h) ∙ other_bit (bit_at a j) (bit_at-lt a j)

-- two words tell the same for each number below a bound, as a test
abbrev same_below : ℕ → ℕ → ℕ → Bool
same_below zero word i = true
same_below (suc n) word i = nat_eq (bit_at word n) (bit_at n i) && same_below n word i

both : (a b : Bool) → (a && b) ≡ true → (a ≡ true) × (b ≡ true)
both true b e = (refl, e)
both false b e = absurd (cc)

equal : (x y : ℕ) → nat_eq x y ≡ true → x ≡ y
equal x y e = grind (arith, nat_tests)

at_or_below : (n word i j : ℕ) → nat_eq (bit_at word n) (bit_at n i) ≡ true
    → (j < n → bit_at word j ≡ bit_at j i) → (j < n) ⊎ (n ≤ j) → j < suc n → bit_at word j ≡ bit_at j i
at_or_below n word i j e below (inl low) h = below low
at_or_below n word i j e below (inr high) h = let s : j ≡ n = omega arith in rw s (equal _ _ e)

found_below : (n word i : ℕ) → same_below n word i ≡ true → (j : ℕ) → j < n → bit_at word j ≡ bit_at j i
found_below zero word i e j h = absurd (omega arith)
found_below (suc n) word i e j h =
    let tests = both (nat_eq (bit_at word n) (bit_at n i)) (same_below n word i) e in
    at_or_below n word i j tests.0 (λ low. found_below n word i tests.1 j low) (cases_lt j n) h

-- a life below 6 is in a set of a block where the set's number in the block has it
low_life : (block i j : ℕ) → i < 6 → bit_at (64 * block + j) i ≡ bit_at j i
low_life block zero j h = omega arith
low_life block (suc zero) j h = omega arith
low_life block (suc (suc zero)) j h = omega arith
low_life block (suc (suc (suc zero))) j h = omega arith
low_life block (suc (suc (suc (suc zero)))) j h = omega arith
low_life block (suc (suc (suc (suc (suc zero))))) j h = omega arith
low_life block (suc (suc (suc (suc (suc (suc i)))))) j h = absurd (omega arith)

pub life_by_word : (block word i : ℕ) → i < 6 → same_below 64 word i ≡ true → IsInBlock block (λ alive. alive i) word
life_by_word block word i small e j h =
    ap (λ n. nat_eq n 1) (found_below 64 word i e j h ∙ sym (low_life block i j small))

-- and a life from 6 on where the block has it
high_life : (block i j : ℕ) → j < 64 → 6 ≤ i → bit_at (64 * block + j) i ≡ bit_at block (i - 6)
high_life block i j small h =
    let parts : i ≡ 6 + (i - 6) = omega arith in
    let split : 2 ^ i ≡ 64 * 2 ^ (i - 6) = ap (λ n. 2 ^ n) parts ∙ pow-add 2 6 (i - 6) in
    let whole : (64 * block + j) / 64 ≡ block = omega arith in
    ap (λ n. (64 * block + j) / n % 2) split
    ∙ ap (λ n. n % 2) (sym (div-div-eq-div-mul (64 * block + j) 64 (2 ^ (i - 6))) ∙ ap (λ n. n / 2 ^ (i - 6)) whole)

pub life_by_block : (block word i : ℕ)
    → 6 ≤ i → ((j : ℕ) → j < 64 → has_bit word j ≡ has_bit block (i - 6)) → IsInBlock block (λ alive. alive i) word
life_by_block block word i h is j small = is j small ∙ ap (λ n. nat_eq n 1) (sym (high_life block i j small h))

-- exactly so many are at least so many and not one more
pub exactly_by_both : (c r : ℕ) → (nat_le r c && not (nat_le (r + 1) c)) ≡ nat_eq c r
exactly_by_both c r = grind (arith, nat_tests)

-- the bits of one word that another does not have
pub has_bit-and_not : (a b j : ℕ) (x y : Bool)
    → b < 2 ^ 64 → j < 64 → has_bit a j ≡ x → has_bit b j ≡ y → has_bit (bit_and a (bit_not w64 b)) j ≡ (x && not y)
has_bit-and_not a b j x y small h e f = has_bit-and a (bit_not w64 b) j
    ∙ ap (λ z. z && has_bit (bit_not w64 b) j) e ∙ ap (λ z. x && z) (has_bit-not b j small h ∙ ap not f)
