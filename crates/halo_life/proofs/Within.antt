-- A mask within a mask is a set within a set: its lives, how many they are, and how many such sets there are.
use Rattle.std.proofs.Common.{◌≡◌, ◌≢◌, pos, ℕ, zero, suc, ◌+◌, ◌*◌, ◌-◌, ◌^◌, ◌<◌, ◌≤◌, List, [], ◌∷◌, length, map, set, Bool, true, false, cond, ◌&&◌, nat_eq, min, arith, refl, ap, sym, ◌∙◌, ⊎_elim}
use Rattle.std.specs.Prelude.{bit_and}
use Rattle.std.specs.Int.{bit_at}
use Rattle.std.proofs.Math.Nat.{pow-suc}
use Rattle.std.proofs.lemmas.Bool.{cases_lt}
use Rattle.std.proofs.lemmas.Bool.Decides.{nat_tests}
use Rattle.std.proofs.lemmas.Nat.Bits.{bit_at-lt, bit_at_above, bit_at_and, same_from_bits}
use Rattle.halo_sums.specs.Sums.{numbers_from, sum_over}
use Rattle.halo_sums.specs.Sets.{in_set, sets, size_of}
use Rattle.halo_sums.specs.Masks.{bits, has_bit}
use Rattle.halo_sums.proofs.Integers.{pos_injective}
use Rattle.halo_sums.proofs.IntSums.{int_sum_over-pos}
use Rattle.halo_sums.proofs.Masks.{has_bit-bits, int_sum_over-masks}
use Rattle.halo_sums.proofs.SetMasks.{length-bits}
use Rattle.halo_sums.proofs.Sums.{sum_over-append, sum_over-map, sum_over-none}
use Rattle.halo_model.specs.Life.{after_first}
use Rattle.halo_model.specs.Backward.{lies_in}
use Rattle.halo_sums.proofs.Numbers.{sum_over-numbers_ext}
use Rattle.halo_sums.specs.Within.{is_within}
use Rattle.halo_sums.proofs.Within.{within-below}
use Rattle.halo_life.proofs.Subsets.{bits-less}
use Rattle.halo_life.proofs.Sums.{sum_over-numbers_push, sum_over-skip}

and-left : (a b : Bool) → (a && b) ≡ true → a ≡ true
and-left true b e = refl
and-left false b e = absurd (cc)

and-right : (a b : Bool) → (a && b) ≡ true → b ≡ true
and-right true b e = e
and-right false b e = absurd (cc)

lies-all : (s : List Bool) (U : ℕ → Bool) → lies_in s U ≡ true → (i : ℕ) → in_set s i ≡ true → U i ≡ true
lies-all [] U h i e = absurd (cc)
lies-all (false ∷ s) U h zero e = absurd (cc)
lies-all (false ∷ s) U h (suc i) e = lies-all s (after_first U) h i e
lies-all (true ∷ s) U h zero e = and-left (U 0) (lies_in s (after_first U)) h
lies-all (true ∷ s) U h (suc i) e = lies-all s (after_first U) (and-right (U 0) (lies_in s (after_first U)) h) i e

all-lie : (s : List Bool) (U : ℕ → Bool) → ((i : ℕ) → in_set s i ≡ true → U i ≡ true) → lies_in s U ≡ true
all-lie [] U h = refl
all-lie (false ∷ s) U h = all-lie s (after_first U) (λ i e. h (suc i) e)
all-lie (true ∷ s) U h = rw (h 0 refl) (all-lie s (after_first U) (λ i e. h (suc i) e))

bit-is : (mask i : ℕ) → has_bit mask i ≡ true → bit_at mask i ≡ 1
bit-is mask i h = grind (arith, nat_tests)

bit-of : (mask i : ℕ) → bit_at mask i ≡ 1 → has_bit mask i ≡ true
bit-of mask i h = grind (arith, nat_tests)

same-is : (m n : ℕ) → m ≡ n → nat_eq m n ≡ true
same-is m n e = grind (arith, nat_tests)

is-same : (m n : ℕ) → nat_eq m n ≡ true → m ≡ n
is-same m n e = grind (arith, nat_tests)

-- each life of a set within another is in it, and where it is so the set is within it
pub within-has : (mask all : ℕ) → is_within mask all ≡ true → (i : ℕ) → has_bit mask i ≡ true → has_bit all i ≡ true
within-has mask all within i there =
    let one = bit-is mask i there in
    let both = sym (bit_at_and mask all i) ∙ ap (λ m. bit_at m i) (is-same (bit_and mask all) mask within) in
    bit-of all i (omega (arith, one, both, bit_at-lt all i))

pub within-by : (mask all : ℕ) → ((i : ℕ) → has_bit mask i ≡ true → has_bit all i ≡ true) → is_within mask all ≡ true
within-by mask all each = same-is (bit_and mask all) mask
    (same_from_bits (bit_and mask all) mask (λ i. bit_at_and mask all i ∙ by-bit i (bit_at mask i) refl))
  where
    by-bit : (i x : ℕ) → bit_at mask i ≡ x → min (bit_at mask i) (bit_at all i) ≡ bit_at mask i
    by-bit i zero e = omega (arith, e)
    by-bit i (suc zero) e = let there = bit-is all i (each i (bit-of mask i e)) in omega (arith, e, there)
    by-bit i (suc (suc x)) e = absurd (omega (arith, e, bit_at-lt mask i))

-- a set within a set within another
pub within-both : (part mask all : ℕ)
    → is_within part mask ≡ true → is_within mask all ≡ true → is_within part all ≡ true
within-both part mask all first second =
    within-by part all (λ i there. within-has mask all second i (within-has part mask first i there))

test-fails : (b : Bool) → (b ≡ true → ⊥) → b ≡ false
test-fails true h = absurd (h refl)
test-fails false h = refl

same-tests : (a b : Bool) → (a ≡ true → b ≡ true) → (b ≡ true → a ≡ true) → a ≡ b
same-tests true b h k = sym (h refl)
same-tests false true h k = absurd (let e = k refl in cc)
same-tests false false h k = refl

in-range : (s : List Bool) (i : ℕ) → in_set s i ≡ true → i < length s
in-range [] i e = absurd (cc)
in-range (b ∷ s) zero e = omega arith
in-range (b ∷ s) (suc i) e = omega (arith, in-range s i e)

-- a number of the set of a mask is a bit of it, and the other way round
module _ (n mask i : ℕ) where
  pub inside : in_set (bits n mask) i ≡ true → i < n
  inside h = omega (arith, in-range (bits n mask) i h, length-bits n mask)

  pub bit-of-set : in_set (bits n mask) i ≡ true → has_bit mask i ≡ true
  bit-of-set h = has_bit-bits n mask i (inside h) ∙ h

  pub bit-below : mask < 2 ^ n → has_bit mask i ≡ true → i < n
  bit-below below there = ⊎_elim
      (λ (in_range : i < n). in_range)
      (λ (out : n ≤ i). absurd
      (let none = bit_at_above mask n i below out in let one = bit-is mask i there in omega arith))
      (cases_lt i n)

  set-of-bit : mask < 2 ^ n → has_bit mask i ≡ true → in_set (bits n mask) i ≡ true
  set-of-bit below there = sym (has_bit-bits n mask i (bit-below below there)) ∙ there

-- masks within masks are sets within sets
within-is : (n mask all : ℕ) → mask < 2 ^ n → is_within mask all ≡ lies_in (bits n mask) (in_set (bits n all))
within-is n mask all below = same-tests (is_within mask all) (lies_in (bits n mask) (in_set (bits n all)))
    (λ within. all-lie (bits n mask) (in_set (bits n all))
    (λ i h. sym (has_bit-bits n all i (inside n mask i h)) ∙ within-has mask all within i (bit-of-set n mask i h)))
    (λ lies. within-by mask all (λ i there. bit-of-set n all i
    (lies-all (bits n mask) (in_set (bits n all)) lies i (set-of-bit n mask i below there))))

-- a set without one of its lives is within it
pub less-within : (n mask b : ℕ) → mask < 2 ^ n → has_bit mask b ≡ true → is_within (mask - 2 ^ b) mask ≡ true
less-within n mask b below there = within-by (mask - 2 ^ b) mask (λ i h.
    bit-of-set n mask i (less (bits n mask) b i (rw (bits-less n mask b
    (bit-below n mask b below there) there) at (set-of-bit n (mask - 2 ^ b) i (omega arith) h))))
  where
    less : (s : List Bool) (b i : ℕ) → in_set (set s b false) i ≡ true → in_set s i ≡ true
    less [] b i e = e
    less (c ∷ s) zero zero e = absurd (cc)
    less (c ∷ s) zero (suc i) e = e
    less (c ∷ s) (suc b) zero e = e
    less (c ∷ s) (suc b) (suc i) e = less s b i e

-- a set within another has no more lives
lying-size : (u s : List Bool) → length u ≡ length s → lies_in u (in_set s) ≡ true → size_of u ≤ size_of s
lying-size [] s len h = omega arith
lying-size (b ∷ u) [] len h = absurd (omega arith)
lying-size (false ∷ u) (true ∷ s) len h = omega (arith, lying-size u s (omega arith) h)
lying-size (false ∷ u) (false ∷ s) len h = lying-size u s (omega arith) h
lying-size (true ∷ u) (true ∷ s) len h = omega (arith, lying-size u s (omega arith) h)
lying-size (true ∷ u) (false ∷ s) len h = absurd (cc)

pub within-size : (n mask all : ℕ)
    → mask < 2 ^ n → is_within mask all ≡ true → size_of (bits n mask) ≤ size_of (bits n all)
within-size n mask all below within =
    lying-size (bits n mask)
    (bits n all) (length-bits n mask ∙ sym (length-bits n all)) (sym (within-is n mask all below) ∙ within)

-- the sets that lie in a set: twice as many for each life of it
sum_over-sets : (n : ℕ) (f : List Bool → ℕ)
    → sum_over (sets (suc n)) f ≡ sum_over (sets n) (λ u. f (false ∷ u)) + sum_over (sets n) (λ u. f (true ∷ u))
sum_over-sets n f = sum_over-append (map (λ u. false ∷ u) (sets n)) (map (λ u. true ∷ u) (sets n)) f
    ∙ omega (arith, sum_over-map (λ u. false ∷ u) (sets n) f, sum_over-map (λ u. true ∷ u) (sets n) f)

lying-sets : (s : List Bool) → sum_over (sets (length s)) (λ u. cond (lies_in u (in_set s)) 1 0) ≡ 2 ^ size_of s
lying-sets [] = refl
lying-sets (true ∷ s) =
    let twice : 2 ^ suc (size_of s) ≡ 2 * 2 ^ size_of s = pow-suc 2 (size_of s) ∙ omega arith in
    sum_over-sets (length s) (λ u. cond (lies_in u (in_set (true ∷ s))) 1 0) ∙ rw twice (omega (arith, lying-sets s))
lying-sets (false ∷ s) =
    sum_over-sets (length s) (λ u. cond (lies_in u (in_set (false ∷ s))) 1 0)
    ∙ omega (arith, lying-sets s, sum_over-none (sets (length s)))

sums-of-masks : (n : ℕ) (f : List Bool → ℕ)
    → sum_over (numbers_from 0 (2 ^ n)) (λ mask. f (bits n mask)) ≡ sum_over (sets n) f
sums-of-masks n f = pos_injective _ _ (sym (int_sum_over-pos (numbers_from 0 (2 ^ n)) (λ mask. f (bits n mask)))
    ∙ int_sum_over-masks n (λ s. pos (f s)) ∙ int_sum_over-pos (sets n) f)

abbrev one_if : Bool → ℕ
one_if is = cond is 1 0

-- how many of the first masks are within another
abbrev pub sets_within : ℕ → ℕ → ℕ
sets_within count all = sum_over (numbers_from 0 count) (λ mask. cond (is_within mask all) 1 0)

pub all-sets-within : (n all : ℕ) → sets_within (2 ^ n) all ≡ 2 ^ size_of (bits n all)
all-sets-within n all =
    sum_over-numbers_ext
    (2 ^ n) 0 _ _ (λ mask from below. ap (λ is. cond is 1 0) (within-is n mask all (omega (arith, below))))
    ∙ sums-of-masks n (λ u. cond (lies_in u (in_set (bits n all))) 1 0)
    ∙ ap (λ k. sum_over (sets k) (λ u. cond (lies_in u (in_set (bits n all))) 1 0)) (sym (length-bits n all))
    ∙ lying-sets (bits n all)

-- the next set within another after one: no set is between the two
module _ (all set next : ℕ) (later : set < next)
    (first : (mask : ℕ) → is_within mask all ≡ true → set < mask → next ≤ mask) where
  pub none-between : (mask : ℕ) → set + 1 ≤ mask → mask < next → is_within mask all ≡ false
  none-between mask after before =
      test-fails (is_within mask all) (λ within. omega (arith, before, first mask within (omega (arith, after))))

  earlier : (mask : ℕ) → is_within mask all ≡ true → mask < next → mask < set + 1
  earlier mask within before = ⊎_elim
      (λ (after : set < mask). absurd (omega (arith, before, first mask within after)))
      (λ (h : mask ≤ set). omega (arith, h))
      (cases_lt set mask)

  -- what holds of the sets up to one and of the next one
  pub up-to-next : (P : ℕ → Type 0) → ((mask : ℕ) → mask < set + 1 → is_within mask all ≡ true → P mask) → P next
      → (mask : ℕ) → mask < next + 1 → is_within mask all ≡ true → P mask
  up-to-next P before here mask low within = ⊎_elim
      (λ (h : mask < next). before mask (earlier mask within h) within)
      (λ (h : next ≤ mask). let e : mask ≡ next = omega arith in rw e here)
      (cases_lt mask next)

  -- a set before the next one, within it
  pub before-next : is_within next all ≡ true → (mask : ℕ) → mask < next → is_within mask next ≡ true
      → (mask < set + 1) × (is_within mask all ≡ true)
  before-next inside mask low within =
      let in_all = within-both mask next all within inside in (earlier mask in_all low, in_all)

  pub one-set-more : is_within next all ≡ true → sets_within (next + 1) all ≡ sets_within (set + 1) all + 1
  one-set-more within =
      sum_over-numbers_push next (λ mask. one_if (is_within mask all))
      ∙ omega (
        arith,
        ap one_if within,
        sum_over-skip (set + 1) (λ mask. one_if (is_within mask all)) next
            (omega (arith, later)) (λ mask after before. ap one_if (none-between mask after before)),
      )

-- a set that is not within another, or comes behind one that is, is not that one
pub other-than : (all set mask : ℕ)
    → is_within set all ≡ true → (is_within mask all ≡ true → set < mask) → mask ≢ set
other-than all set mask within later same = omega (arith, same, later (rw same within))

-- no set within another comes behind it
pub none-behind : (mask all : ℕ) → all + 1 ≤ mask → is_within mask all ≡ false
none-behind mask all behind =
    test-fails (is_within mask all) (λ within. omega (arith, behind, within-below mask all within))

-- so they are all among the masks up to it
pub all-up-to : (count all : ℕ) → all < count → sets_within count all ≡ sets_within (all + 1) all
all-up-to count all below = sum_over-skip (all + 1) (λ mask. one_if (is_within mask all)) count
    (omega (arith, below)) (λ mask after before. ap one_if (none-behind mask all after))

pub sets-up-to : (n all : ℕ) → all < 2 ^ n → sets_within (all + 1) all ≡ 2 ^ size_of (bits n all)
sets-up-to n all below = sym (all-up-to (2 ^ n) all below) ∙ all-sets-within n all
