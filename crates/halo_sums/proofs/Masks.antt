-- Sums over masks are sums over sets.
use Rattle.std.proofs.Common.{◌≡◌, ℕ, zero, suc, ◌+◌, ◌*◌, ◌/◌, ◌%◌, ◌^◌, ◌<◌, arith, refl, ap, sym, ◌∙◌, List, ◌∷◌, Bool, true, false, nat_eq, ℤ, ◌+ℤ◌}
use Rattle.std.proofs.Math.Nat.{pow-suc, pow-succ', div-div-eq-div-mul}
use Rattle.std.proofs.lemmas.Int.{ints}
use Rattle.halo_sums.specs.Sums.{int_sum_over, numbers_from}
use Rattle.halo_sums.specs.Sets.{in_set, sets}
use Rattle.halo_sums.specs.Masks.{bits, has_bit}
use Rattle.halo_sums.proofs.IntSums.{int_sum_over-add, int_sum_over-ext}
use Rattle.halo_sums.proofs.Sets.{int_sum_over-sets}

-- twice as many numbers, two at a time
in-pairs : (g : ℕ → ℤ) (n a b m : ℕ) → b ≡ 2 * a → m ≡ 2 * n
    → int_sum_over (numbers_from b m) g ≡ int_sum_over (numbers_from a n) (λ i. g (2 * i) +ℤ g (2 * i + 1))
in-pairs g zero a b m e f = let z : m ≡ 0 = omega arith in rw z
in-pairs g (suc n) a b m e f =
    let z : m ≡ suc (suc (2 * n)) = omega arith in
    let next : suc b ≡ 2 * a + 1 = omega arith in
    rw z (regroup (g b) (g (suc b)) (int_sum_over (numbers_from (suc (suc b)) (2 * n)) g)
    ∙ ap (λ z. z +ℤ int_sum_over (numbers_from (suc (suc b)) (2 * n)) g)
    (ap (λ i. g i +ℤ g (suc b)) e ∙ ap (λ i. g (2 * a) +ℤ g i) next)
    ∙ ap (λ z. (g (2 * a) +ℤ g (2 * a + 1)) +ℤ z) (in-pairs g n (suc a) (suc (suc b)) (2 * n) (omega arith) refl))
  where
    regroup : (x y z : ℤ) → x +ℤ (y +ℤ z) ≡ (x +ℤ y) +ℤ z
    regroup x y z = omega (arith, ints)

bits-even : (n i : ℕ) → bits (suc n) (2 * i) ≡ false ∷ bits n i
bits-even n i =
    let r : 2 * i % 2 ≡ 0 = omega arith in
    let q : 2 * i / 2 ≡ i = omega arith in
    rw (r, q)

bits-odd : (n i : ℕ) → bits (suc n) (2 * i + 1) ≡ true ∷ bits n i
bits-odd n i =
    let r : (2 * i + 1) % 2 ≡ 1 = omega arith in
    let q : (2 * i + 1) / 2 ≡ i = omega arith in
    rw (r, q)

pub int_sum_over-masks : (n : ℕ) (g : List Bool → ℤ)
    → int_sum_over (numbers_from 0 (2 ^ n)) (λ mask. g (bits n mask)) ≡ int_sum_over (sets n) g
int_sum_over-masks zero g = refl
int_sum_over-masks (suc n) g =
    in-pairs (λ mask. g (bits (suc n) mask)) (2 ^ n) 0 0 (2 ^ suc n) refl (pow-suc 2 n ∙ omega arith)
    ∙ int_sum_over-ext masks _ _ (λ i. ap (λ s. g s +ℤ g (bits (suc n) (2 * i + 1))) (bits-even n i)
    ∙ ap (λ s. g (false ∷ bits n i) +ℤ g s) (bits-odd n i))
    ∙ int_sum_over-add masks (λ i. g (false ∷ bits n i)) (λ i. g (true ∷ bits n i))
    ∙ ap (λ z. z +ℤ int_sum_over masks (λ i. g (true ∷ bits n i))) (int_sum_over-masks n (λ u. g (false ∷ u)))
    ∙ ap (λ z. int_sum_over (sets n) (λ u. g (false ∷ u)) +ℤ z) (int_sum_over-masks n (λ u. g (true ∷ u)))
    ∙ sym (int_sum_over-sets n g)
  where
    masks : List ℕ
    masks = numbers_from 0 (2 ^ n)

-- the numbers in the set of a mask are those of its bits
pub has_bit-bits : (n mask i : ℕ) → i < n → has_bit mask i ≡ in_set (bits n mask) i
has_bit-bits zero mask i h = absurd (omega arith)
has_bit-bits (suc n) mask zero h = let e : mask / 2 ^ 0 ≡ mask = omega arith in rw e
has_bit-bits (suc n) mask (suc i) h =
    ap (λ k. nat_eq (k % 2) 1) (halved mask i) ∙ has_bit-bits n (mask / 2) i (omega arith)
  where
    halved : (m i : ℕ) → m / 2 ^ suc i ≡ m / 2 / 2 ^ i
    halved m i = rw (pow-succ' 2 i) (sym (div-div-eq-div-mul m 2 (2 ^ i)))
