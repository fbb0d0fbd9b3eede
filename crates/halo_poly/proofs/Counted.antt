-- Statuses that are counted on a set, and what their number tells.
use Rattle.std.proofs.Common.{◌≡◌, ◌⊎◌, ℕ, zero, suc, ◌+◌, ◌^◌, ◌<◌, arith, refl, ap, sym, ◌∙◌, inl, inr, List, [], ◌∷◌, length, ◌++◌, get_or, map, take, drop, add-one, Result, Ok, Err, IfOk, Bool, true, false, cond, ℤ, pos}
use Rattle.std.proofs.Math.Seq.{take-append_seam}
use Rattle.halo_sums.specs.Sums.{count_true, indicator}
use Rattle.halo_sums.specs.SetMasks.{mask_of}
use Rattle.halo_sums.proofs.SetMasks.{mask_of-lt}
use Rattle.halo_poly.specs.Poly.{EachOfSets, count_at, is_marked, value_on, values_on}
use Rattle.halo_sums.specs.Choices.{choose}
use Rattle.halo_poly.specs.Symmetric.{AreOfStatuses, IsOfStatus, count_on, is_one, symmetric_sum}
use Rattle.halo_poly.proofs.SymmetricSums.{symmetric-counts}

count_true-more : (b : Bool) (bs : List Bool) → count_true (b ∷ bs) ≡ cond b 1 0 + count_true bs
count_true-more true bs = omega arith
count_true-more false bs = omega arith

one_more : (list : List (List ℤ)) (i : ℕ) (q : List ℤ) (s : List Bool) → i < length list → q ≡ get_or list i q
    → count_on (take (suc i) list) s ≡ count_on (take i list) s + cond (is_one (value_on q s)) 1 0
one_more [] i q s h e = absurd (omega arith)
one_more (p ∷ list) zero q s h e =
    ap (λ y. count_true (is_one (value_on y s) ∷ [])) (sym e) ∙ count_true-more (is_one (value_on q s)) [] ∙ omega arith
one_more (p ∷ list) (suc i) q s h e =
    count_true-more (is_one (value_on p s)) (map (λ p. is_one (value_on p s)) (take (suc i) list))
    ∙ omega (
      arith,
      one_more list i q s (omega arith) e,
      count_true-more (is_one (value_on p s)) (map (λ p. is_one (value_on p s)) (take i list)),
    )

-- with the polynomial at hand
pub counted_more : (list : List (List ℤ)) (i : ℕ) (q : List ℤ) (s : List Bool) → i < length list → q ≡ get_or list i q
    → count_on (take (i + 1) list) s ≡ count_on (take i list) s + cond (is_one (value_on q s)) 1 0
counted_more list i q s h e = rw add-one (one_more list i q s h e)

one_told : (z : ℤ) → (z ≡ pos 0) ⊎ (z ≡ pos 1) → z ≡ indicator (is_one z)
one_told z (inl e) = rw e refl
one_told z (inr e) = rw e refl

-- the values of statuses are those of tests
values_told : (n : ℕ) (list : List (List ℤ)) (s : List Bool) → AreOfStatuses n list → length s ≡ n
    → map (λ q. value_on q s) list ≡ map indicator (map (λ q. is_one (value_on q s)) list)
values_told n [] s are l = refl
values_told n (p ∷ list) s are l =
    ap (λ z. z ∷ map (λ q. value_on q s) list) (one_told (value_on p s) (are.0 s l))
    ∙ ap (λ zs. indicator (is_one (value_on p s)) ∷ zs) (values_told n list s are.1 l)

module _ (m : ℕ) (list : List (List ℤ)) (counts : List ℕ)
    (statuses : (n : ℕ) → m ≡ 2 ^ n → AreOfStatuses n list) (full : length counts ≡ m)
    (counted : EachOfSets m (λ s. count_at counts s ≡ count_on list s)) where
  -- where the sets are marked by a test of their counts, the values are the sum that tells the test
  pub sum_on_marks : (test : ℕ → Bool) (sum : List ℤ → ℤ)
      → ((bs : List Bool) → indicator (test (count_true bs)) ≡ sum (map indicator bs)) → (marks : List Bool)
      → ((k : ℕ) → k < length counts → get_or marks k false ≡ test (get_or counts k 0)) → (p : List ℤ)
      → EachOfSets m (λ s. value_on p s ≡ indicator (is_marked marks s))
      → EachOfSets m (λ s. value_on p s ≡ sum (values_on list s))
  sum_on_marks test sum tells marks marked p values n e s l =
      let bound : mask_of s < 2 ^ n = rw l at (mask_of-lt s) in
      values n e s l
      ∙ ap indicator (marked (mask_of s) (omega (arith, full, bound)) ∙ ap test (counted n e s l))
      ∙ tells (map (λ q. is_one (value_on q s)) list)
      ∙ ap sum (sym (values_told n list s (statuses n e) l))

-- marks that were written back whole
pub marks_written : (k : ℕ) (xs ys : List Bool) → length xs ≡ k → take k (xs ++ drop (length xs) ys) ≡ xs
marks_written k xs ys e = rw (← e) (take-append_seam xs (drop (length xs) ys))

-- where a call succeeds, what follows from what it gives
pub if_ok : {E : Type 0} (r : Result (List ℤ) E) (P Q : List ℤ → Type 0) → IfOk r P → ((p : List ℤ) → P p → Q p)
    → IfOk r Q
if_ok (Ok p) P Q h next = next p h
if_ok (Err e) P Q h next = h

-- the parts with j statuses that exist, from their number
pub sum_told : (n : ℕ) (list : List (List ℤ)) (j : ℕ) (s : List Bool) (count : ℕ) → AreOfStatuses n list → length s ≡ n
    → count ≡ count_on list s → pos (choose count j) ≡ symmetric_sum j (map (λ q. value_on q s) list)
sum_told n list j s count are l c =
    ap (λ k. pos (choose k j)) c
    ∙ sym (ap (symmetric_sum j) (values_told n list s are l)
    ∙ symmetric-counts j (map (λ q. is_one (value_on q s)) list))

-- what holds of each item of a list and of one more, by their places
pub one_added : (P : ℕ → List ℤ → Type 0) (xs : List (List ℤ)) (z : List ℤ) (m : ℕ) → length xs ≡ m
    → ((j : ℕ) → j < m → P j (get_or xs j [])) → P m z → (j : ℕ) → j < m + 1 → P j (get_or (xs ++ z ∷ []) j [])
one_added P [] z m e each last zero h = let q : m ≡ 0 = omega arith in rw q at last
one_added P [] z m e each last (suc j) h = absurd (omega arith)
one_added P (x ∷ xs) z zero e each last j h = absurd (omega arith)
one_added P (x ∷ xs) z (suc m) e each last zero h = each 0 (omega arith)
one_added P (x ∷ xs) z (suc m) e each last (suc j) h =
    one_added (λ k. P (suc k)) xs z m (omega arith) (λ k l. each (suc k) (omega arith)) last j (omega arith)

pub length-one_added : (xs : List (List ℤ)) (z : List ℤ) → length (xs ++ z ∷ []) ≡ length xs + 1
length-one_added [] z = omega arith
length-one_added (x ∷ xs) z = omega (arith, length-one_added xs z)

-- where the values are those of a test, there is a status
pub of_status : (n : ℕ) (p : List ℤ) (holds : List Bool → Bool) → ((s : List Bool) → value_on p s ≡ indicator (holds s))
    → IsOfStatus n p
of_status n p holds told s l = either (holds s) (told s)
  where
    either : (b : Bool) → value_on p s ≡ indicator b → (value_on p s ≡ pos 0) ⊎ (value_on p s ≡ pos 1)
    either true e = inr e
    either false e = inl e

pub one_status_more : (n : ℕ) (ps : List (List ℤ)) (p : List ℤ) → AreOfStatuses n ps → IsOfStatus n p
    → AreOfStatuses n (ps ++ p ∷ [])
one_status_more n [] p are is = (is, tt)
one_status_more n (q ∷ ps) p are is = (are.0, one_status_more n ps p are.1 is)
