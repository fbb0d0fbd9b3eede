-- The widths of all sets are within the count.
use Rattle.std.proofs.Common.{◌≡◌, ℕ, zero, suc, ◌+◌, ◌*◌, ◌-◌, ◌^◌, ◌<◌, ◌≤◌, arith, refl, ap, List, [], ◌∷◌, ◌++◌, length, map, Bool, true, false, cond, ◌&&◌, nat_le, nat_lt, ℤ, neg_ℤ, ◌≤ℤ◌, pos, negsuc, ◌-ℤ◌, ⊎_elim, mul-le-mul_left, mul-le-mul_right}
use Rattle.std.proofs.lemmas.Bool.{cases_lt}
use Rattle.std.proofs.lemmas.Nat.{mul-le}
use Rattle.std.proofs.Math.Nat.{pow-suc, pow-zero}
use Rattle.std.proofs.lemmas.Bool.Decides.{nat_tests}
use Rattle.std.proofs.lemmas.Int.{ints}
use Rattle.halo_sums.specs.Sums.{numbers_from, sum_over}
use Rattle.halo_sums.specs.Sets.{sets, size_of}
use Rattle.halo_sums.proofs.Sums.{sum_over-add, sum_over-append, sum_over-map, sum_over-none, sum_over-scale, sum_over-swap}
use Rattle.halo_status.specs.Nodes.{nodes}
use Rattle.halo_status.specs.Pay.{PlainPay}
use Rattle.halo_model.specs.Basis.{Basis}
use Rattle.halo_model.specs.Chance.{IsValidInsurance}
use Rattle.halo_model.specs.Coefficient.{form}
use Rattle.halo_model.specs.Counts.{form_weight, greatest, greatest_factor, lives_named, order_share, size, width_count}
use Rattle.halo_model.specs.Horizon.{horizon}
use Rattle.halo_model.specs.Payment.{payment}
use Rattle.halo_model.specs.Segment.{coefficients_at, first_time}
use Rattle.halo_model.specs.SetValue.{SomeEvents}
use Rattle.halo_model.specs.Backward.{above_zero, below_zero}
use Rattle.halo_along.proofs.Counting.{cond-within, factor-within}
use Rattle.halo_along.proofs.InsuredWhole.{share-some}
use Rattle.halo_along.proofs.NamedLives.{named-most}
use Rattle.halo_insure.specs.Dues.{SetsWithinCount, coefficient_before, due_by_both, due_of, ends_count}
use Rattle.halo_insure.proofs.Silent.{few-or-none}
use Rattle.halo_compile.proofs.Coefficients.{parts-size}

-- at most as much at each number, at most as much in sum
sum-numbers-mono : (count first : ℕ) (f g : ℕ → ℕ) → ((i : ℕ) → first ≤ i → i < first + count → f i ≤ g i)
    → sum_over (numbers_from first count) f ≤ sum_over (numbers_from first count) g
sum-numbers-mono zero first f g h = omega arith
sum-numbers-mono (suc count) first f g h = omega (
  arith,
  h first (omega arith) (omega arith),
  sum-numbers-mono count (suc first) f g (λ i from below. h i (omega arith) (omega arith)),
)

sum-numbers-most : (count first c : ℕ) (f : ℕ → ℕ)
    → ((i : ℕ) → first ≤ i → i < first + count → f i ≤ c) → sum_over (numbers_from first count) f ≤ count * c
sum-numbers-most zero first c f h = omega arith
sum-numbers-most (suc count) first c f h = omega (
  arith,
  h first (omega arith) (omega arith),
  sum-numbers-most count (suc first) c f (λ i from below. h i (omega arith) (omega arith)),
)

greatest-at : (least first count j : ℕ) (f : ℕ → ℕ)
    → first ≤ j → j < first + count → f j ≤ greatest least (map f (numbers_from first count))
greatest-at least first zero j f low high = absurd (omega arith)
greatest-at least first (suc count) j f low high = ⊎_elim
    (λ before. omega (arith, greatest-at least (suc first) count j f before (omega arith)))
    (λ here. let e : j ≡ first = omega arith in rw e (omega arith))
    (cases_lt first j)

size-high : (z : ℤ) → z ≤ℤ pos (size z)
size-high (pos n) = omega (arith, ints)
size-high (negsuc n) = omega (arith, ints)

size-low : (z : ℤ) → neg_ℤ (pos (size z)) ≤ℤ z
size-low (pos n) = omega (arith, ints)
size-low (negsuc n) = omega (arith, ints)

size-most : (z : ℤ) (n : ℕ) → z ≤ℤ pos n → neg_ℤ (pos n) ≤ℤ z → size z ≤ n
size-most (pos k) n high low = omega (arith, ints, high)
size-most (negsuc k) n high low = omega (arith, ints, low)

difference-size : (y z : ℤ) → size (y -ℤ z) ≤ size y + size z
difference-size y z = size-most (y -ℤ z)
    (size y + size z) (omega (arith, ints, size-high y, size-low z)) (omega (arith, ints, size-low y, size-high z))

cond-most : (b : Bool) (n : ℕ) → cond b n 0 ≤ n
cond-most b n = cond-within b n n (omega arith)

square : (n : ℕ) → n ^ 2 ≡ n * n
square n =
    let two : n ^ 2 ≡ n ^ 1 * n = pow-suc n 1 in
    let one : n ^ 1 ≡ n ^ 0 * n = pow-suc n 0 in
    let none : n ^ 0 ≡ 1 = pow-zero n in
    rw (two, one, none) (omega arith)

-- the count has room
room : (m n H h G f share : ℕ) → n ≤ m → 1 ≤ m → h ≤ H
    → 1 ≤ share → h * (h * ((4 * n + 3) * (f * (3 * G)))) ≤ 6 * (m + 1) ^ 2 * G * (H + 1) * (H + n + 3) * f * share
room m n H h G f share named some years once =
    let a : 2 * (m + 1) ≤ (m + 1) * (m + 1) = mul-le-mul_right (m + 1) (omega arith) in
    let sq : (m + 1) ^ 2 ≡ (m + 1) * (m + 1) = square (m + 1) in
    let x : 12 * n + 9 ≤ 6 * (m + 1) ^ 2 = omega (arith, a, sq) in
    let u : h * h ≤ (H + 1) * (H + n + 3) = mul-le h h (H + 1) (H + n + 3) (omega arith) (omega arith) in
    let y : (12 * n + 9) * (h * h) ≤ 6 * (m + 1) ^ 2 * ((H + 1) * (H + n + 3)) =
    mul-le (12 * n + 9) (h * h) (6 * (m + 1) ^ 2) ((H + 1) * (H + n + 3)) x u in
    let z : (12 * n + 9) * (h * h) * (G * f) ≤ 6 * (m + 1) ^ 2 * ((H + 1) * (H + n + 3)) * (G * f) =
    mul-le-mul_right (G * f) y in
    let w : 6 * (m + 1) ^ 2 * ((H + 1) * (H + n + 3)) * (G * f) * 1 ≤ 6 * (m + 1) ^ 2 * ((H + 1) * (H + n + 3))
    * (G * f) * share = mul-le-mul_left (6 * (m + 1) ^ 2 * ((H + 1) * (H + n + 3)) * (G * f)) once in
    omega (arith, z, w)

module _
    (b : Basis) (pay : PlainPay) (is : IsValidInsurance pay) (one : pay.amount ≡ 1) (events : SomeEvents) (T : ℕ) where
  abbrev pub N : ℕ
  N = length b.lives

  abbrev pub H : ℕ
  H = horizon b.lives pay.body

  abbrev pub n : ℕ
  n = lives_named N pay.body

  abbrev pub f : ℕ
  f = greatest_factor pay.vary H

  abbrev pub G : ℕ
  G = form_weight pay N H

  abbrev pub weigh : List Bool → ℕ → ℕ
  weigh s j = 2 * size (form pay j s) + size (coefficient_before pay H (suc j) s)

  abbrev term_of : List Bool → ℕ → ℕ
  term_of s j = (due_of above_zero pay events H s j).on_leaving + (due_of above_zero pay events H s j).at_end
      + ((due_of below_zero pay events H s j).on_leaving + (due_of below_zero pay events H s j).at_end)

  paid-most : (j : ℕ) → j < H → payment pay (j - pay.defer) ≤ f
  paid-most j h = rw one (omega (arith, factor-within pay.vary (j - pay.defer) H (omega arith)))

  -- what is due in a year is at most the greatest factor for each coefficient
  term-most : (s : List Bool) (j : ℕ) → j < H → term_of s j ≤ f * weigh s j
  term-most s j h =
      let P : ℕ = payment pay (j - pay.defer) in
      let c = form pay j s in
      let d = c -ℤ coefficient_before pay H (suc j) s in
      let D : Bool = nat_le pay.defer j in
      let E : Bool = nat_le pay.defer j && (ends_count pay events (suc j)) in
      let r : P * (size c + size d) ≤ P * (2 * size c + size (coefficient_before pay H (suc j) s)) =
      mul-le-mul_left P (omega (arith, difference-size c (coefficient_before pay H (suc j) s))) in
      let q : P * (2 * size c + size (coefficient_before pay H (suc j) s))
      ≤ f * (2 * size c + size (coefficient_before pay H (suc j) s)) =
      mul-le-mul_right (2 * size c + size (coefficient_before pay H (suc j) s)) (paid-most j h) in
      omega (
        arith,
        cond-most D (P * above_zero c),
        cond-most D (P * below_zero c),
        cond-most E (P * above_zero d),
        cond-most E (P * below_zero d),
        ap (λ (k : ℕ). P * k) (parts-size c),
        ap (λ (k : ℕ). P * k) (parts-size d),
        r,
        q,
      )

  -- a set with more lives than are named has no coefficient
  few : (s : List Bool) (j : ℕ) → length s ≡ N → (4 * size_of s + 3) * (f * weigh s j) ≤ (4 * n + 3) * (f * weigh s j)
  few s j len = ⊎_elim
      (λ small. mul-le-mul_right (f * weigh s j) (omega (arith, small)))
      (λ none. ⊎_elim
      (λ small. mul-le-mul_right (f * weigh s j) (omega (arith, small)))
      (λ later. no-coefficient none later)
      (few-or-none pay (suc j) N s len))
      (few-or-none pay j N s len)
    where
      before : form pay (suc j) s ≡ pos 0 → (b : Bool) → cond b (form pay (suc j) s) (pos 0) ≡ pos 0
      before e true = e
      before e false = refl

      no-coefficient : form pay j s ≡ pos 0
          → form pay (suc j) s ≡ pos 0 → (4 * size_of s + 3) * (f * weigh s j) ≤ (4 * n + 3) * (f * weigh s j)
      no-coefficient p q =
          let w : weigh s j ≡ 0 = rw (p, before q (nat_lt (suc j) H)) refl in
          let z : f * weigh s j ≡ 0 = rw w (omega arith) in
          rw z (omega arith)

  due-most : (s : List Bool) (years k : ℕ)
      → due_by_both pay events H s k years ≡ sum_over (numbers_from k years) (term_of s)
  due-most s zero k = refl
  due-most s (suc years) k = omega (arith, due-most s years (suc k))

  set-most : (s : List Bool) → length s ≡ N → (H - T) * ((4 * size_of s + 3) * due_by_both pay events H s T (H - T))
      ≤ (H - T) * sum_over (numbers_from T (H - T)) (λ j. (4 * n + 3) * (f * weigh s j))
  set-most s len = rw (due-most s (H - T) T) (mul-le-mul_left (H - T) (omega (
    arith,
    sum_over-scale (numbers_from T (H - T)) (4 * size_of s + 3) (term_of s),
    sum-numbers-mono
        (H - T) T (λ j. (4 * size_of s + 3) * term_of s j) (λ j. (4 * n + 3) * (f * weigh s j)) (λ j from below.
        let a : (4 * size_of s + 3) * term_of s j ≤ (4 * size_of s + 3) * (f * weigh s j) =
        mul-le-mul_left (4 * size_of s + 3) (term-most s j (omega arith)) in
        omega (arith, a, few s j len)),
  )))

  weight-at : (j : ℕ) → j < H → sum_over (sets N) (λ s. size (form pay j s)) ≤ G
  weight-at j h = let e : first_time pay.kind ≡ 0 = ap first_time is.kind in
      rw e (omega (
        arith,
        greatest-at 1 0 H j (λ t. sum_over (coefficients_at pay N t) size)
            (omega arith) (omega arith),
        sum_over-map (form pay j) (sets N) size,
      ))

  before-weight : (j : ℕ) → sum_over (sets N) (λ s. size (coefficient_before pay H j s)) ≤ G
  before-weight j = each (nat_lt j H) refl
    where
      each : (b : Bool) → nat_lt j H ≡ b → sum_over (sets N) (λ s. size (cond b (form pay j s) (pos 0))) ≤ G
      each true e = weight-at j (grind (arith, nat_tests))
      each false e = omega (arith, sum_over-none (sets N))

  year-most : (j : ℕ) → j < H → sum_over (sets N) (λ s. (4 * n + 3) * (f * weigh s j)) ≤ (4 * n + 3) * (f * (3 * G))
  year-most j h =
      let two = sum_over-scale (sets N) 2 (λ s. size (form pay j s)) in
      let all = sum_over-add (sets N) (λ s. 2 * size (form pay j s)) (λ s. size (coefficient_before pay H (suc j) s)) in
      let total : sum_over (sets N) (weigh' j) ≤ 3 * G =
      omega (arith, two, all, weight-at j h, before-weight (suc j)) in
      let a : f * sum_over (sets N) (weigh' j) ≤ f * (3 * G) = mul-le-mul_left f total in
      let c : (4 * n + 3) * (f * sum_over (sets N) (weigh' j)) ≤ (4 * n + 3) * (f * (3 * G)) =
      mul-le-mul_left (4 * n + 3) a in
      let e = sum_over-scale (sets N) (4 * n + 3) (λ s. f * weigh' j s) in
      let g = ap (λ (k : ℕ). (4 * n + 3) * k) (sum_over-scale (sets N) f (weigh' j)) in
      omega (arith, c, e, g)
    where
      weigh' : ℕ → List Bool → ℕ
      weigh' j s = 2 * size (form pay j s) + size (coefficient_before pay H (suc j) s)

-- at most as much for each set of n lives, at most as much in sum
sets-mono : (n : ℕ) (f g : List Bool → ℕ)
    → ((s : List Bool) → length s ≡ n → f s ≤ g s) → sum_over (sets n) f ≤ sum_over (sets n) g
sets-mono zero f g h = omega (arith, h [] refl)
sets-mono (suc n) f g h = omega (
  arith,
  both-ways (sets n) f,
  both-ways (sets n) g,
  sets-mono n (λ s. f (false ∷ s)) (λ s. g (false ∷ s)) (λ s e. h (false ∷ s) (ap suc e)),
  sets-mono n (λ s. f (true ∷ s)) (λ s. g (true ∷ s)) (λ s e. h (true ∷ s) (ap suc e)),
)
  where
    both-ways : (us : List (List Bool)) (f : List Bool → ℕ)
        → sum_over (map (λ u. false ∷ u) us ++ map (λ u. true ∷ u) us) f
        ≡ sum_over us (λ u. f (false ∷ u)) + sum_over us (λ u. f (true ∷ u))
    both-ways us f = omega (
      arith,
      sum_over-append (map (λ u. false ∷ u) us) (map (λ u. true ∷ u) us) f,
      sum_over-map (λ u. false ∷ u) us f,
      sum_over-map (λ u. true ∷ u) us f,
    )

pub sets-within-count : SetsWithinCount
unfolding width_count
sets-within-count b pay is one events T =
    let years : ℕ = horizon b.lives pay.body in
    let n : ℕ = lives_named (length b.lives) pay.body in
    let f : ℕ = greatest_factor pay.vary years in
    let G : ℕ = form_weight pay (length b.lives) years in
    let h : ℕ = years - T in
    let c : ℕ = (4 * n + 3) * (f * (3 * G)) in
    let bound : sum_over (sets (length b.lives)) (λ s. h * ((4 * size_of s + 3) * due_by_both pay events years s T h))
    ≤ sum_over (sets (length b.lives))
    (λ s. h * sum_over (numbers_from T h) (λ j. (4 * n + 3) * (f * weigh b pay is one events T s j)))
    = sets-mono (length b.lives) _ _ (λ s e. set-most b pay is one events T s e) in
    let scaled = sum_over-scale (sets (length b.lives)) h
    (λ s. sum_over (numbers_from T h) (λ j. (4 * n + 3) * (f * weigh b pay is one events T s j))) in
    let swapped = sum_over-swap
    (sets (length b.lives)) (numbers_from T h) (λ s j. (4 * n + 3) * (f * weigh b pay is one events T s j)) in
    let each : sum_over (numbers_from T h)
    (λ j. sum_over (sets (length b.lives)) (λ s. (4 * n + 3) * (f * weigh b pay is one events T s j))) ≤ h * c =
    sum-numbers-most h T c _ (λ j from below. year-most b pay is one events T j (omega arith)) in
    let all : sum_over (sets (length b.lives))
    (λ s. sum_over (numbers_from T h) (λ j. (4 * n + 3) * (f * weigh b pay is one events T s j))) ≤ h * c =
    omega (arith, swapped, each) in
    let times : h * sum_over (sets (length b.lives))
    (λ s. sum_over (numbers_from T h) (λ j. (4 * n + 3) * (f * weigh b pay is one events T s j))) ≤ h * (h * c) =
    mul-le-mul_left h all in
    let named = named-most (length b.lives) pay.body in
    let enough = room (nodes pay.body) n years h G f
    (order_share b.ties pay.kind n) named.0 named.1 (omega arith) (share-some b.ties pay.kind n) in
    omega (arith, bound, scaled, times, enough)
