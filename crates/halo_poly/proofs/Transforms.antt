-- The transforms in memory: after the passes for some lives each place holds what these passes make of its set.
use Rattle.std.proofs.Common.{◌≡◌, ℕ, zero, suc, ◌+◌, ◌-◌, ◌*◌, ◌^◌, ◌<◌, ◌≤◌, arith, refl, ap, sym, ◌∙◌, ⊎_elim, List, [], ◌∷◌, length, length-set, set, get_or-set_same, take, drop, ◌++◌, Bool, true, false, cond, ℤ, pos, ◌+ℤ◌, ◌-ℤ◌, unsigned_abs, FitsSigned, w64}
use Rattle.std.proofs.Math.Nat.{pow-suc, pow-le-pow_right}
use Rattle.std.proofs.Math.Seq.{take-append_seam}
use Rattle.std.proofs.lemmas.Bool.{cases_lt}
use Rattle.std.proofs.lemmas.List.{get_or_past}
use Rattle.std.proofs.lemmas.Nat.{mul-le}
use Rattle.std.proofs.lemmas.Int.{ints, fits_signed_from_abs}
use Rattle.halo_sums.specs.Sums.{indicator}
use Rattle.halo_sums.specs.Sets.{in_set, size_of}
use Rattle.halo_sums.specs.Masks.{bits}
use Rattle.halo_sums.specs.Coefficients.{coefficient}
use Rattle.halo_sums.proofs.Bounds.{coefficients-bounded}
use Rattle.halo_sums.proofs.Coefficients.{coefficients-add}
use Rattle.halo_sums.specs.SetMasks.{CountsSets, mask_of}
use Rattle.halo_poly.specs.Poly.{IsPoly, IsSmall, coefficient_at, coefficient_of, value_on}
use Rattle.halo_poly.specs.Transform.{without}
use Rattle.halo_sums.proofs.SameLength.{sum-cong}
use Rattle.halo_sums.proofs.SetMasks.{has_bit-mask_of, length-bits, mask_of-bits, mask_of-lt}
use Rattle.halo_poly.proofs.Masks.{mask_of-without}
use Rattle.halo_poly.proofs.Passes.{difference_pass, difference_passes, difference_passes-all, sum_pass, sum_passes, sum_passes-all}

-- a list holds f for the sets of n lives
pub record Holds (n : ℕ) (f : List Bool → ℤ) (values : List ℤ) : Type 0 where
  pub full : length values ≡ 2 ^ n
  pub each : (s : List Bool) → length s ≡ n → coefficient_of values s ≡ f s

-- what there is without a life, by the set
pub without-set : (values : List ℤ) (life : ℕ) (s : List Bool) → life < length s
    → without values life (mask_of s) ≡ cond (in_set s life) (coefficient_of values (set s life false)) (pos 0)
unfolding without
without-set values life s h = rw (has_bit-mask_of s life h) (go (in_set s life) refl)
  where
    go : (b : Bool) → in_set s life ≡ b
        → cond b (coefficient_at values (mask_of s - 2 ^ life)) (pos 0)
        ≡ cond b (coefficient_of values (set s life false)) (pos 0)
    go false e = refl
    go true e = ap (coefficient_at values) (omega (arith, mask_of-without s life e))

pub without-held : (n : ℕ) (f : List Bool → ℤ) (values : List ℤ) (life : ℕ) (s : List Bool) → Holds n f values
    → life < n → length s ≡ n → without values life (mask_of s) ≡ cond (in_set s life) (f (set s life false)) (pos 0)
without-held n f values life s h within e =
    without-set values life s (omega arith)
    ∙ ap (λ z. cond (in_set s life) z (pos 0)) (h.each (set s life false) (simp length-set e))

-- one pass more
pub sum_more : (n : ℕ) (f : List Bool → ℤ) (values next : List ℤ) (life : ℕ) → Holds n f values → life < n
    → length next ≡ length values
    → ((mask : ℕ) → mask < length values
    → coefficient_at next mask ≡ coefficient_at values mask +ℤ without values life mask)
    → Holds n (sum_pass life f) next
sum_more n f values next life h within same sums = record {
  full = same ∙ h.full;
  each =
      λ s e.
      sums (mask_of s) (rw (h.full, ← e) (mask_of-lt s))
      ∙ ap (λ z. z +ℤ without values life (mask_of s)) (h.each s e)
      ∙ ap (λ z. f s +ℤ z) (without-held n f values life s h within e);
}

pub difference_more : (n : ℕ) (f : List Bool → ℤ) (values next : List ℤ) (life : ℕ) → Holds n f values → life < n
    → length next ≡ length values
    → ((mask : ℕ) → mask < length values
    → coefficient_at next mask ≡ coefficient_at values mask -ℤ without values life mask)
    → Holds n (difference_pass life f) next
difference_more n f values next life h within same differences = record {
  full = same ∙ h.full;
  each =
      λ s e.
      differences (mask_of s) (rw (h.full, ← e) (mask_of-lt s))
      ∙ ap (λ z. z -ℤ without values life (mask_of s)) (h.each s e)
      ∙ ap (λ z. f s -ℤ z) (without-held n f values life s h within e);
}

-- the size of a sum and of a difference
pub abs-add : (a b : ℤ) → unsigned_abs (a +ℤ b) ≤ unsigned_abs a + unsigned_abs b
abs-add a b = omega (arith, ints)

pub abs-sub : (a b : ℤ) → unsigned_abs (a -ℤ b) ≤ unsigned_abs a + unsigned_abs b
abs-sub a b = omega (arith, ints)

abs-cond : (b : Bool) (z : ℤ) (c : ℕ) → unsigned_abs z ≤ c → unsigned_abs (cond b z (pos 0)) ≤ c
abs-cond true z c h = h
abs-cond false z c h = omega arith

-- after k passes that add, nothing is more than 2^k times as large
pub doubled : (k c : ℕ) → 2 ^ suc k * c ≡ 2 ^ k * c + 2 ^ k * c
doubled k c = ap (λ m. m * c) (pow-suc 2 k) ∙ omega arith

pub sums_bounded : (n k : ℕ) (f : List Bool → ℤ) (c : ℕ) → ((u : List Bool) → length u ≡ n → unsigned_abs (f u) ≤ c)
    → (s : List Bool) → length s ≡ n → unsigned_abs (sum_passes k f s) ≤ 2 ^ k * c
sums_bounded n zero f c h s l = omega (arith, h s l)
sums_bounded n (suc k) f c h s l = omega (
  arith,
  doubled k c,
  abs-add (sum_passes k f s) (cond (in_set s k) (sum_passes k f (set s k false)) (pos 0)),
  sums_bounded n k f c h s l,
  abs-cond (in_set s k) (sum_passes k f (set s k false)) (2 ^ k * c)
      (sums_bounded n k f c h (set s k false) (simp length-set l)),
)

-- without a life a set has it no more, so that its pass changes nothing there
settled : (k : ℕ) (f : List Bool → ℤ) (s : List Bool) → k < length s
    → difference_pass k f (set s k false) ≡ f (set s k false)
settled k f s h =
    let gone : in_set (set s k false) k ≡ false = get_or-set_same s k false false h in
    rw gone (omega (arith, ints))

taken_back : (b : Bool) (x y z : ℤ) → z ≡ x -ℤ cond b y (pos 0) → x ≡ z +ℤ cond b y (pos 0)
taken_back b x y z e = omega (arith, ints, e)

-- with j passes that take away still to come, nothing is more than 2^j times as large as what they end with
pub differences_bounded : (n : ℕ) (f : List Bool → ℤ) (c : ℕ)
    → ((s : List Bool) → length s ≡ n → unsigned_abs (difference_passes n f s) ≤ c)
    → (j k : ℕ) → k + j ≡ n → (s : List Bool) → length s ≡ n → unsigned_abs (difference_passes k f s) ≤ 2 ^ j * c
differences_bounded n f c h zero k e s l = let all : k ≡ n = omega arith in rw all (omega (arith, h s l))
differences_bounded n f c h (suc j) k e s l =
    let d : List Bool → ℤ = difference_passes k f in
    let u : List Bool = set s k false in
    let later : (v : List Bool) → length v ≡ n → unsigned_abs (difference_pass k d v) ≤ 2 ^ j * c =
    differences_bounded n f c h j (suc k) (omega arith) in
    let at_u : unsigned_abs (d u) ≤ 2 ^ j * c = rw (settled k d s (omega arith)) at (later u (simp length-set l)) in
    omega (
      arith,
      doubled j c,
      ap unsigned_abs (taken_back (in_set s k) (d s) (d u) (difference_pass k d s) refl),
      abs-add (difference_pass k d s) (cond (in_set s k) (d u) (pos 0)),
      later s l,
      abs-cond (in_set s k) (d u) (2 ^ j * c) at_u,
    )

-- what is at most 2^12 times as large as a small number fits 64 bits
pub bounded_fits : (k : ℕ) (z : ℤ) → k ≤ 12 → unsigned_abs z ≤ 2 ^ k * 10 ^ 15 → FitsSigned w64 z
bounded_fits k z h b =
    let p : 2 ^ k ≤ 2 ^ 12 = pow-le-pow_right (omega arith) h in
    fits_signed_from_abs w64 z (omega (arith, mul-le (2 ^ k) (10 ^ 15) (2 ^ 12) (10 ^ 15) p (omega arith)))

-- and so does what there is after some of the passes that take away
pub passes_fit : (n k : ℕ) (f : List Bool → ℤ) → ((s : List Bool) → length s ≡ n → IsSmall (coefficient f s))
    → k ≤ n → n ≤ 12 → (s : List Bool) → length s ≡ n → FitsSigned w64 (difference_passes k f s)
passes_fit n k f small within few s l =
    let ends : (v : List Bool) → length v ≡ n → IsSmall (difference_passes n f v) =
    λ v q. rw (sym (ap (λ j. difference_passes j f v) q) ∙ difference_passes-all v f) (small v q) in
    bounded_fits (n - k) _ (omega arith) (differences_bounded n f (10 ^ 15) ends (n - k) k (omega arith) s l)

-- what a pass makes of a place fits
pub sum_fits : (n : ℕ) (f : List Bool → ℤ) (values : List ℤ) (life mask : ℕ) → Holds n (sum_passes life f) values
    → ((u : List Bool) → IsSmall (f u)) → life < n → n ≤ 12 → mask < length values
    → FitsSigned w64 (coefficient_at values mask +ℤ without values life mask)
sum_fits n f values life mask h small within few m =
    let s : List Bool = bits n mask in
    let e : mask_of s ≡ mask = mask_of-bits n mask (omega (arith, h.full)) in
    let l : length s ≡ n = length-bits n mask in
    let held : coefficient_of values s +ℤ without values life (mask_of s) ≡ sum_passes (suc life) f s =
    ap (λ z. z +ℤ without values life (mask_of s)) (h.each s l)
    ∙ ap (λ z. sum_passes life f s +ℤ z) (without-held n (sum_passes life f) values life s h within l) in
    let whole : coefficient_at values mask +ℤ without values life mask ≡ sum_passes (suc life) f s =
    ap (λ m. coefficient_at values m +ℤ without values life m) (sym e) ∙ held in
    rw whole (bounded_fits (suc life) _ (omega arith) (sums_bounded n (suc life) f (10 ^ 15) (λ u e. small u) s l))

pub difference_fits : (n : ℕ) (f : List Bool → ℤ) (values : List ℤ) (life mask : ℕ)
    → Holds n (difference_passes life f) values → ((s : List Bool) → length s ≡ n → IsSmall (coefficient f s))
    → life < n → n ≤ 12 → mask < length values
    → FitsSigned w64 (coefficient_at values mask -ℤ without values life mask)
difference_fits n f values life mask h small within few m =
    let s : List Bool = bits n mask in
    let e : mask_of s ≡ mask = mask_of-bits n mask (omega (arith, h.full)) in
    let l : length s ≡ n = length-bits n mask in
    let held : coefficient_of values s -ℤ without values life (mask_of s) ≡ difference_passes (suc life) f s =
    ap (λ z. z -ℤ without values life (mask_of s)) (h.each s l)
    ∙ ap (λ z. difference_passes life f s -ℤ z)
    (without-held n (difference_passes life f) values life s h within l) in
    let whole : coefficient_at values mask -ℤ without values life mask ≡ difference_passes (suc life) f s =
    ap (λ m. coefficient_at values m -ℤ without values life m) (sym e) ∙ held in
    rw whole (passes_fit n (suc life) f small within few s l)

-- a value fits where the coefficients are small
pub value_fits : (n : ℕ) (f : List Bool → ℤ) → n ≤ 12 → ((s : List Bool) → length s ≡ n → IsSmall (coefficient f s))
    → (s : List Bool) → length s ≡ n → FitsSigned w64 (f s)
value_fits n f few small s l =
    let sum : sum_passes n (coefficient f) s ≡ f s =
    sym (ap (λ k. sum_passes k (coefficient f) s) l) ∙ sum_passes-all s (coefficient f) ∙ coefficients-add f s in
    rw (← sum) (bounded_fits n _ few (sums_bounded n n (coefficient f) (10 ^ 15) small s l))

-- what is small for each set is small for each mask
pub small_by_sets : (n : ℕ) (p : List ℤ) → length p ≡ 2 ^ n
    → ((s : List Bool) → length s ≡ n → IsSmall (coefficient_of p s)) → (mask : ℕ) → IsSmall (coefficient_at p mask)
small_by_sets n p full small mask = ⊎_elim
    (λ (h : mask < 2 ^ n). rw (mask_of-bits n mask h) at (small (bits n mask) (length-bits n mask)))
    (λ (h : 2 ^ n ≤ mask). rw (get_or_past p mask (pos 0) (omega (arith, full))) (omega arith))
    (cases_lt mask (2 ^ n))

-- and so there is a polynomial
pub is_poly : (m n : ℕ) (p : List ℤ) → CountsSets m → m ≡ 2 ^ n → length p ≡ m
    → ((s : List Bool) → length s ≡ n → IsSmall (coefficient_of p s)) → IsPoly m p
is_poly m n p sets e full small = record { sets = sets; full = full; small = small_by_sets n p (full ∙ e) small }

-- a list that was written back whole
pub written : (k : ℕ) (xs ys : List ℤ) → length xs ≡ k → take k (xs ++ drop (length xs) ys) ≡ xs
written k xs ys e = rw (← e) (take-append_seam xs (drop (length xs) ys))

-- the coefficient of a test is small
pub test_small : (holds : List Bool → Bool) (s : List Bool) → length s ≤ 12
    → IsSmall (coefficient (λ u. indicator (holds u)) s)
test_small holds s few =
    let h = coefficients-bounded holds s in
    let size : size_of s - 1 ≤ 12 = omega (arith, size_of-le s) in
    let p : 2 ^ (size_of s - 1) ≤ 2 ^ 12 = pow-le-pow_right (omega arith) size in
    omega (arith, ints, h.0, h.1)
  where
    size_of-le : (s : List Bool) → size_of s ≤ length s
    size_of-le [] = omega arith
    size_of-le (true ∷ s) = omega (arith, size_of-le s)
    size_of-le (false ∷ s) = omega (arith, size_of-le s)

-- where the coefficients are those of f on the sets of n lives, so are the values
pub values_of : (n : ℕ) (f : List Bool → ℤ) (p : List ℤ)
    → ((s : List Bool) → length s ≡ n → coefficient_of p s ≡ coefficient f s) → (s : List Bool) → length s ≡ n
    → value_on p s ≡ f s
values_of n f p each s l = sum-cong s (coefficient_of p) (coefficient f) (λ u e. each u (e ∙ l)) ∙ coefficients-add f s
