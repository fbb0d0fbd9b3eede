-- The part of a set within some lives, by masks, and the coefficients of a function that sees no more than that part.
use Rattle.std.proofs.Common.{◌≡◌, ℕ, zero, suc, ◌+◌, ◌*◌, ◌/◌, ◌%◌, ◌<◌, arith, refl, ap, sym, ◌∙◌, List, [], ◌∷◌, set, Bool, true, false, cond, ◌&&◌, nat_eq, bit_and, ℤ, pos, ◌-ℤ◌}
use Rattle.std.proofs.Math.Path.{fun_ext}
use Rattle.std.proofs.lemmas.Bool.{false≢true}
use Rattle.std.proofs.lemmas.Bool.Decides.{nat_tests}
use Rattle.std.proofs.lemmas.Int.{ints}
use Rattle.std.proofs.lemmas.Nat.{and_le_l}
use Rattle.std.proofs.lemmas.Nat.Bits.{bit_at-suc, bit_at_lowest}
use Rattle.halo_sums.specs.Coefficients.{coefficient}
use Rattle.halo_sums.specs.Masks.{has_bit}
use Rattle.halo_sums.specs.Sets.{in_set}
use Rattle.halo_sums.specs.SetMasks.{mask_of}
use Rattle.halo_sums.specs.Within.{is_within}
use Rattle.halo_sums.proofs.Coefficients.{coefficient-empty, coefficient-with, coefficient-without}
use Rattle.halo_sums.proofs.Within.{lowest-apart}

-- the empty set
and_none : (all : ℕ) → bit_and 0 all ≡ 0
and_none all = omega (arith, and_le_l 0 all)

pub none_within : (all : ℕ) → is_within 0 all ≡ true
none_within all = ap (λ m. nat_eq m 0) (and_none all)

-- a set without life 0, and one with it
one_and : (r : ℕ) → r < 2 → bit_and 1 r ≡ r
one_and zero h = refl
one_and (suc zero) h = refl
one_and (suc (suc r)) h = absurd (omega arith)

and_even : (m all : ℕ) → bit_and (0 + 2 * m) all ≡ 0 + 2 * bit_and m (all / 2)
and_even m all =
    let up : (0 + 2 * m) / 2 ≡ m = omega arith in
    let down : (0 + 2 * m) % 2 ≡ 0 = omega arith in
    let parts = rw (up, down) at (lowest-apart (0 + 2 * m) all) in
    omega (arith, parts, and_none (all % 2))

and_odd : (m all : ℕ) → bit_and (1 + 2 * m) all ≡ all % 2 + 2 * bit_and m (all / 2)
and_odd m all =
    let up : (1 + 2 * m) / 2 ≡ m = omega arith in
    let down : (1 + 2 * m) % 2 ≡ 1 = omega arith in
    let parts = rw (up, down) at (lowest-apart (1 + 2 * m) all) in
    omega (arith, parts, one_and (all % 2) (omega arith))

twice_same : (a b : ℕ) → nat_eq (0 + 2 * a) (0 + 2 * b) ≡ nat_eq a b
twice_same a b = grind (arith, nat_tests)

odd_same : (r a b : ℕ) → r < 2 → nat_eq (r + 2 * a) (1 + 2 * b) ≡ (nat_eq r 1 && nat_eq a b)
odd_same r a b h = grind (arith, nat_tests)

within_even : (m all : ℕ) → is_within (0 + 2 * m) all ≡ is_within m (all / 2)
within_even m all = rw (and_even m all) (twice_same (bit_and m (all / 2)) m)

within_odd : (m all : ℕ) → is_within (1 + 2 * m) all ≡ (nat_eq (all % 2) 1 && is_within m (all / 2))
within_odd m all = rw (and_odd m all) (odd_same (all % 2) (bit_and m (all / 2)) m (omega arith))

first_holds : (a b : Bool) → (a && b) ≡ true → a ≡ true
first_holds true b e = refl
first_holds false b e = absurd (cc)

second_holds : (a b : Bool) → (a && b) ≡ true → b ≡ true
second_holds true b e = e
second_holds false b e = absurd (cc)

second_follows : (a b c : Bool) → (b ≡ true → c ≡ true) → (a && b) ≡ true → (a && c) ≡ true
second_follows true b c h e = h e
second_follows false b c h e = absurd (cc)

-- a set within some lives is so without one of its own
pub less_within : (s : List Bool) (all i : ℕ) → is_within (mask_of s) all ≡ true
    → is_within (mask_of (set s i false)) all ≡ true
less_within [] all i h = h
less_within (false ∷ s) all zero h = h
less_within (true ∷ s) all zero h =
    within_even (mask_of s) all ∙ second_holds _ _ (sym (within_odd (mask_of s) all) ∙ h)
less_within (false ∷ s) all (suc i) h =
    within_even (mask_of (set s i false)) all
    ∙ less_within s (all / 2) i (sym (within_even (mask_of s) all) ∙ h)
less_within (true ∷ s) all (suc i) h =
    within_odd (mask_of (set s i false)) all
    ∙ second_follows (nat_eq (all % 2) 1) (is_within (mask_of s) (all / 2)) _ (less_within s (all / 2) i)
    (sym (within_odd (mask_of s) all) ∙ h)

-- and has none but these
pub others_out : (s : List Bool) (all i : ℕ) → is_within (mask_of s) all ≡ true → has_bit all i ≡ false
    → in_set s i ≡ false
others_out [] all i h e = refl
others_out (false ∷ s) all zero h e = refl
others_out (true ∷ s) all zero h e =
    let there : nat_eq (all % 2) 1 ≡ true = first_holds _ _ (sym (within_odd (mask_of s) all) ∙ h) in
    let gone : nat_eq (all % 2) 1 ≡ false = ap (λ r. nat_eq r 1) (sym (bit_at_lowest all)) ∙ e in
    absurd (false≢true (sym gone ∙ there))
others_out (false ∷ s) all (suc i) h e =
    others_out s (all / 2) i (sym (within_even (mask_of s) all) ∙ h)
    (ap (λ r. nat_eq r 1) (sym (bit_at-suc all i)) ∙ e)
others_out (true ∷ s) all (suc i) h e =
    others_out s (all / 2) i (second_holds _ _ (sym (within_odd (mask_of s) all) ∙ h))
    (ap (λ r. nat_eq r 1) (sym (bit_at-suc all i)) ∙ e)

difference_none : (y z : ℤ) → y ≡ z → y -ℤ z ≡ pos 0
difference_none y z e = omega (arith, ints, e)

difference_cond : (b : Bool) (w x y z : ℤ) → w ≡ cond b y (pos 0) → x ≡ cond b z (pos 0)
    → w -ℤ x ≡ cond b (y -ℤ z) (pos 0)
difference_cond true w x y z e f = omega (arith, ints, e, f)
difference_cond false w x y z e f = omega (arith, ints, e, f)

-- the coefficients of the part of a set with life 0, told by those of its other lives
first_coefficient : (s : List Bool) (all r : ℕ) (h : ℕ → ℤ) → all % 2 ≡ r → r < 2
    → ((g : ℕ → ℤ) → coefficient (λ u. g (bit_and (mask_of u) (all / 2))) s
    ≡ cond (is_within (mask_of s) (all / 2)) (coefficient (λ u. g (mask_of u)) s) (pos 0))
    → coefficient (λ u. h (bit_and (mask_of u) all)) (true ∷ s)
    ≡ cond (is_within (1 + 2 * mask_of s) all) (coefficient (λ u. h (mask_of u)) (true ∷ s)) (pos 0)
first_coefficient s all zero h e few rest =
    coefficient-with (λ u. h (bit_and (mask_of u) all)) s
    ∙ difference_none _ _ (ap (λ (g : List Bool → ℤ). coefficient g s) (fun_ext (λ u. ap h (unseen (mask_of u)))))
    ∙ ap (λ b. cond b (coefficient (λ u. h (mask_of u)) (true ∷ s)) (pos 0))
    (sym (within_odd (mask_of s) all ∙ ap (λ b. nat_eq b 1 && is_within (mask_of s) (all / 2)) e))
  where
    unseen : (m : ℕ) → bit_and (1 + 2 * m) all ≡ bit_and (0 + 2 * m) all
    unseen m = omega (arith, and_odd m all, and_even m all, e)
first_coefficient s all (suc zero) h e few rest =
    coefficient-with (λ u. h (bit_and (mask_of u) all)) s
    ∙ difference_cond (is_within (mask_of s) (all / 2)) _ _ (coefficient (λ u. h (1 + 2 * mask_of u)) s)
    (coefficient (λ u. h (0 + 2 * mask_of u)) s)
    (ap (λ (g : List Bool → ℤ). coefficient g s) (fun_ext (λ u. ap h (seen (mask_of u)))) ∙ rest (λ k. h (1 + 2 * k)))
    (ap (λ (g : List Bool → ℤ). coefficient g s) (fun_ext (λ u. ap h (and_even (mask_of u) all)))
    ∙ rest (λ k. h (0 + 2 * k)))
    ∙ ap (λ z. cond (is_within (mask_of s) (all / 2)) z (pos 0)) (sym (coefficient-with (λ u. h (mask_of u)) s))
    ∙ ap (λ b. cond b (coefficient (λ u. h (mask_of u)) (true ∷ s)) (pos 0))
    (sym (within_odd (mask_of s) all ∙ ap (λ b. nat_eq b 1 && is_within (mask_of s) (all / 2)) e))
  where
    seen : (m : ℕ) → bit_and (1 + 2 * m) all ≡ 1 + 2 * bit_and m (all / 2)
    seen m = omega (arith, and_odd m all, e)
first_coefficient s all (suc (suc r)) h e few rest = absurd (omega arith)

-- a function of the part of a set within some lives has the coefficients of the function on the sets within them, and
-- no others
pub part_coefficient : (s : List Bool) (all : ℕ) (h : ℕ → ℤ) → coefficient (λ u. h (bit_and (mask_of u) all)) s
    ≡ cond (is_within (mask_of s) all) (coefficient (λ u. h (mask_of u)) s) (pos 0)
part_coefficient [] all h =
    coefficient-empty (λ u. h (bit_and (mask_of u) all))
    ∙ ap h (and_none all)
    ∙ sym (coefficient-empty (λ u. h (mask_of u)))
    ∙ ap (λ b. cond b (coefficient (λ u. h (mask_of u)) []) (pos 0)) (sym (none_within all))
part_coefficient (false ∷ s) all h =
    coefficient-without (λ u. h (bit_and (mask_of u) all)) s
    ∙ ap (λ (g : List Bool → ℤ). coefficient g s) (fun_ext (λ u. ap h (and_even (mask_of u) all)))
    ∙ part_coefficient s (all / 2) (λ k. h (0 + 2 * k))
    ∙ ap (λ b. cond b (coefficient (λ u. h (0 + 2 * mask_of u)) s) (pos 0)) (sym (within_even (mask_of s) all))
    ∙ ap (λ z. cond (is_within (0 + 2 * mask_of s) all) z (pos 0)) (sym (coefficient-without (λ u. h (mask_of u)) s))
part_coefficient (true ∷ s) all h =
    first_coefficient s all (all % 2) h refl (omega arith) (part_coefficient s (all / 2))
