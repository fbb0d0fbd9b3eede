-- The values of sums, of one coefficient alone, and of the part with a life.
use Rattle.std.proofs.Common.{◌≡◌, ◌≢◌, ℕ, zero, suc, ◌+◌, ◌*◌, ◌^◌, ◌<◌, ◌≤◌, arith, refl, ap, sym, ◌∙◌, List, [], ◌∷◌, length, replicate, set, Bool, true, false, cond, ℤ, pos, ◌+ℤ◌, ◌-ℤ◌}
use Rattle.std.proofs.Math.Nat.{pow-suc}
use Rattle.std.proofs.lemmas.Bool.{false≢true}
use Rattle.std.proofs.lemmas.Int.{ints}
use Rattle.std.proofs.lemmas.List.{get_or-set_same, get_or-set_other}
use Rattle.std.proofs.lemmas.Nat.{pow_pos}
use Rattle.halo_sums.specs.Sums.{indicator, int_sum_over}
use Rattle.halo_sums.specs.Sets.{in_set, subsets}
use Rattle.halo_sums.specs.Masks.{has_bit}
use Rattle.halo_sums.proofs.IntSums.{int_sum_over-add, int_sum_over-ext, int_sum_over-none, int_sum_over-sub}
use Rattle.halo_sums.proofs.Sets.{int_sum_over-subsets_with, int_sum_over-subsets_without}
use Rattle.halo_sums.specs.SetMasks.{mask_of}
use Rattle.halo_poly.specs.Poly.{coefficient_at, coefficient_of, value_on}
use Rattle.halo_sums.proofs.SetMasks.{has_bit-mask_of}
use Rattle.halo_sums.proofs.SameLength.{sum-cong}

pub value_of_sum : (p q first second r : List ℤ) → first ≡ p → second ≡ q
    → ((k : ℕ) → coefficient_at r k ≡ coefficient_at first k +ℤ coefficient_at second k) → (s : List Bool)
    → value_on r s ≡ value_on p s +ℤ value_on q s
value_of_sum p q first second r e d sums s = rw (← e, ← d)
    (int_sum_over-ext (subsets s) (coefficient_of r) (λ u. coefficient_of first u +ℤ coefficient_of second u)
    (λ u. sums (mask_of u))
    ∙ int_sum_over-add (subsets s) (coefficient_of first) (coefficient_of second))

pub value_of_difference : (p q first second r : List ℤ) → first ≡ p → second ≡ q
    → ((k : ℕ) → coefficient_at r k ≡ coefficient_at first k -ℤ coefficient_at second k) → (s : List Bool)
    → value_on r s ≡ value_on p s -ℤ value_on q s
value_of_difference p q first second r e d differences s = rw (← e, ← d)
    (int_sum_over-ext (subsets s) (coefficient_of r) (λ u. coefficient_of first u -ℤ coefficient_of second u)
    (λ u. differences (mask_of u))
    ∙ int_sum_over-sub (subsets s) (coefficient_of first) (coefficient_of second))

-- nothing is added up
all_none : (f : ℕ → ℤ) (s : List Bool) → ((k : ℕ) → f k ≡ pos 0) → int_sum_over (subsets s) (λ u. f (mask_of u)) ≡ pos 0
all_none f s none =
    int_sum_over-ext (subsets s) (λ u. f (mask_of u)) (λ u. pos 0) (λ u. none (mask_of u))
    ∙ int_sum_over-none (subsets s)

-- the empty set alone counts
only_empty : (f : ℕ → ℤ) → f 0 ≡ pos 1 → ((k : ℕ) → k ≢ 0 → f k ≡ pos 0) → (s : List Bool)
    → int_sum_over (subsets s) (λ u. f (mask_of u)) ≡ pos 1
only_empty f one none [] = ap (λ z. z +ℤ pos 0) one
only_empty f one none (false ∷ s) =
    int_sum_over-subsets_without s (λ u. f (mask_of u))
    ∙ only_empty (λ k. f (0 + 2 * k)) one (λ k ne. none (0 + 2 * k) (omega arith)) s
only_empty f one none (true ∷ s) = omega (
  arith,
  ints,
  int_sum_over-subsets_with s (λ u. f (mask_of u)),
  only_empty (λ k. f (0 + 2 * k)) one (λ k ne. none (0 + 2 * k) (omega arith)) s,
  all_none (λ k. f (1 + 2 * k)) s (λ k. none (1 + 2 * k) (omega arith)),
)

-- the set of one life alone counts
only_life : (life : ℕ) (f : ℕ → ℤ) → f (2 ^ life) ≡ pos 1 → ((k : ℕ) → k ≢ 2 ^ life → f k ≡ pos 0) → (s : List Bool)
    → int_sum_over (subsets s) (λ u. f (mask_of u)) ≡ indicator (in_set s life)
only_life life f one none [] = ap (λ z. z +ℤ pos 0) (none 0 (omega (arith, pow_pos life)))
only_life zero f one none (false ∷ s) =
    int_sum_over-subsets_without s (λ u. f (mask_of u))
    ∙ all_none (λ k. f (0 + 2 * k)) s (λ k. none (0 + 2 * k) (omega arith))
only_life zero f one none (true ∷ s) = omega (
  arith,
  ints,
  int_sum_over-subsets_with s (λ u. f (mask_of u)),
  all_none (λ k. f (0 + 2 * k)) s (λ k. none (0 + 2 * k) (omega arith)),
  only_empty (λ k. f (1 + 2 * k)) one (λ k ne. none (1 + 2 * k) (omega arith)) s,
)
only_life (suc life) f one none (false ∷ s) =
    let double : 0 + 2 * 2 ^ life ≡ 2 ^ suc life = omega (arith, pow-suc 2 life) in
    int_sum_over-subsets_without s (λ u. f (mask_of u))
    ∙ only_life life (λ k. f (0 + 2 * k)) (ap f double ∙ one) (λ k ne. none (0 + 2 * k) (omega (arith, pow-suc 2 life)))
    s
only_life (suc life) f one none (true ∷ s) =
    let double : 0 + 2 * 2 ^ life ≡ 2 ^ suc life = omega (arith, pow-suc 2 life) in
    omega (
      arith,
      ints,
      int_sum_over-subsets_with s (λ u. f (mask_of u)),
      only_life life (λ k. f (0 + 2 * k)) (ap f double ∙ one) (λ k ne. none (0 + 2 * k) (omega (arith, pow-suc 2 life)))
          s,
      all_none (λ k. f (1 + 2 * k)) s (λ k. none (1 + 2 * k) (omega (arith, pow-suc 2 life))),
    )

zeros : (m k : ℕ) → coefficient_at (replicate m (pos 0)) k ≡ pos 0
zeros zero k = refl
zeros (suc m) zero = refl
zeros (suc m) (suc k) = zeros m k

length-replicate : (m : ℕ) → length (replicate m (pos 0)) ≡ m
length-replicate zero = refl
length-replicate (suc m) = ap suc (length-replicate m)

-- one coefficient is 1
here : (m i : ℕ) → i < m → coefficient_at (set (replicate m (pos 0)) i (pos 1)) i ≡ pos 1
here m i h = get_or-set_same (replicate m (pos 0)) i (pos 1) (pos 0) (omega (arith, length-replicate m))

elsewhere : (m i k : ℕ) → k ≢ i → coefficient_at (set (replicate m (pos 0)) i (pos 1)) k ≡ pos 0
elsewhere m i k ne = get_or-set_other (replicate m (pos 0)) i k (pos 1) (pos 0) ne ∙ zeros m k

pub value_of_none : (m : ℕ) (p : List ℤ) → p ≡ replicate m (pos 0) → (s : List Bool) → value_on p s ≡ pos 0
value_of_none m p e s = rw e (all_none (coefficient_at (replicate m (pos 0))) s (zeros m))

pub value_of_one : (m : ℕ) (p : List ℤ) → 1 ≤ m → p ≡ set (replicate m (pos 0)) 0 (pos 1) → (s : List Bool)
    → value_on p s ≡ pos 1
value_of_one m p h e s =
    rw e (only_empty (coefficient_at (set (replicate m (pos 0)) 0 (pos 1))) (here m 0 h) (λ k ne. elsewhere m 0 k ne) s)

pub value_of_life : (m life : ℕ) (p : List ℤ) → 2 ^ life < m → p ≡ set (replicate m (pos 0)) (2 ^ life) (pos 1)
    → (s : List Bool) → value_on p s ≡ indicator (in_set s life)
value_of_life m life p h e s =
    rw e (only_life life (coefficient_at (set (replicate m (pos 0)) (2 ^ life) (pos 1))) (here m (2 ^ life) h)
    (λ k ne. elsewhere m (2 ^ life) k ne) s)

-- with a life more
mask_of-with : (u : List Bool) (i : ℕ) → i < length u → in_set u i ≡ false → mask_of u + 2 ^ i ≡ mask_of (set u i true)
mask_of-with [] i h e = absurd (omega arith)
mask_of-with (true ∷ u) zero h e = absurd (false≢true (sym e))
mask_of-with (false ∷ u) zero h e = omega arith
mask_of-with (b ∷ u) (suc i) h e = omega (arith, pow-suc 2 i, mask_of-with u i (omega arith) e)

-- the sum over the subsets without a life, each with the life added
part_with : (life : ℕ) (f : List Bool → ℤ) (s : List Bool) → life < length s
    → int_sum_over (subsets s) (λ u. cond (in_set u life) (pos 0) (f (set u life true)))
    ≡ int_sum_over (subsets (set s life true)) f -ℤ int_sum_over (subsets (set s life false)) f
part_with life f [] h = absurd (omega arith)
part_with zero f (false ∷ s) h = omega (
  arith,
  ints,
  int_sum_over-subsets_without s (λ u. cond (in_set u 0) (pos 0) (f (set u 0 true))),
  int_sum_over-subsets_with s f,
  int_sum_over-subsets_without s f,
)
part_with zero f (true ∷ s) h = omega (
  arith,
  ints,
  int_sum_over-subsets_with s (λ u. cond (in_set u 0) (pos 0) (f (set u 0 true))),
  int_sum_over-none (subsets s),
  int_sum_over-subsets_with s f,
  int_sum_over-subsets_without s f,
)
part_with (suc life) f (false ∷ s) h = omega (
  arith,
  ints,
  int_sum_over-subsets_without s (λ u. cond (in_set u (suc life)) (pos 0) (f (set u (suc life) true))),
  part_with life (λ u. f (false ∷ u)) s (omega arith),
  int_sum_over-subsets_without (set s life true) f,
  int_sum_over-subsets_without (set s life false) f,
)
part_with (suc life) f (true ∷ s) h = omega (
  arith,
  ints,
  int_sum_over-subsets_with s (λ u. cond (in_set u (suc life)) (pos 0) (f (set u (suc life) true))),
  part_with life (λ u. f (false ∷ u)) s (omega arith),
  part_with life (λ u. f (true ∷ u)) s (omega arith),
  int_sum_over-subsets_with (set s life true) f,
  int_sum_over-subsets_with (set s life false) f,
)

-- the value of the part with a life
pub value_of_part : (p r : List ℤ) (life : ℕ) (s : List Bool) → life < length s
    → ((k : ℕ) → coefficient_at r k ≡ cond (has_bit k life) (pos 0) (coefficient_at p (k + 2 ^ life)))
    → value_on r s ≡ value_on p (set s life true) -ℤ value_on p (set s life false)
value_of_part p r life s h dropped =
    sum-cong s (coefficient_of r) (λ u. cond (in_set u life) (pos 0) (coefficient_of p (set u life true))) each
    ∙ part_with life (coefficient_of p) s h
  where
    either : (u : List Bool) (b : Bool) → in_set u life ≡ b → life < length u
        → cond b (pos 0) (coefficient_at p (mask_of u + 2 ^ life)) ≡ cond b (pos 0) (coefficient_of p (set u life true))
    either u true e within = refl
    either u false e within = ap (coefficient_at p) (mask_of-with u life within e)

    each : (u : List Bool) → length u ≡ length s
        → coefficient_of r u ≡ cond (in_set u life) (pos 0) (coefficient_of p (set u life true))
    each u l =
        dropped (mask_of u)
        ∙ ap (λ b. cond b (pos 0) (coefficient_at p (mask_of u + 2 ^ life))) (has_bit-mask_of u life (omega arith))
        ∙ either u (in_set u life) refl (omega arith)
