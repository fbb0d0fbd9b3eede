-- The laws of sums over all orders.
use Rattle.std.proofs.Common.{◌≡◌, ℕ, zero, suc, ◌+◌, ◌*◌, ◌-◌, ◌<◌, ◌≤◌, arith, refl, ap, sym, ◌∙◌, List, [], ◌∷◌, length, Bool, true, false, cond, not, ◌&&◌, ◌||◌, nat_eq, nat_lt, ⊎_elim}
use Rattle.std.proofs.Math.Path.{fun_ext}
use Rattle.std.proofs.Math.Nat.{le_of_mul-le-mul_right, mul-pos}
use Rattle.std.proofs.lemmas.Bool.{cases_lt}
use Rattle.std.proofs.lemmas.Bool.Decides.{eqb_tells, nat_tests}
use Rattle.std.specs.List.{filter}
use Rattle.halo_sums.specs.Sums.{numbers_from, product_over, sum_over}
use Rattle.halo_sums.proofs.Sums.{sum_over-ext, sum_over-scale, sum_over-scale_right}
use Rattle.halo_sums.proofs.Numbers.{sum_over-numbers_next}
use Rattle.halo_model.specs.Order.{orders, rank_in}
use Rattle.halo_model.specs.EvenTies.{factorial, first_leaving_evenly, lives_in, without}
use Rattle.halo_sums.specs.Choices.{choose}
use Rattle.halo_sums.proofs.Choices.{choose-past}
use Rattle.halo_model.specs.OrderLaws.{FirstLeavingEvenly, MeanOverOrders, OrdersCounted, exactly_before, product_by_rank, sum_of_choices}
use Rattle.halo_model.proofs.Orders.{LooksOnlyAt, orders-count, orders-first-or-none, orders-restrict, over_each, over_each-add, over_each-ext, over_each-scale, over_each-sum}
use Rattle.halo_model.proofs.EvenTies.{all_alive, among, among-step, evenly-among, factorial-some, first_share, apart, each-in, first-of, later, length-numbers, length-with, lives_in-ext, sum_over-kept, nat_eq-same, not-before-first, above, below, product_over-kept_ext, rank-among, rank-behind, rank-first, taken-out}

module _ (early late : ℕ → ℕ) where
  -- a life that comes before, and j of the others: each choice of j + 1 is counted j + 1 times
  one-chosen : (xs : List ℕ) (j : ℕ) → over_each xs (λ b rest. early b * sum_of_choices early late rest j)
      ≡ suc j * sum_of_choices early late xs (suc j)
  one-chosen [] j = omega arith
  one-chosen (x ∷ xs) zero = omega (
    arith,
    over_each-ext xs (λ b rest. early b * (late x * sum_of_choices early late rest 0))
        (λ b rest. late x * (early b * sum_of_choices early late rest 0))
        (λ b rest. turn (early b) (late x) (sum_of_choices early late rest 0)),
    over_each-scale xs (late x) (λ b rest. early b * sum_of_choices early late rest 0),
    ap (λ m. late x * m) (one-chosen xs 0),
  )
    where
      turn : (a b c : ℕ) → a * (b * c) ≡ b * (a * c)
      turn a b c = omega arith
  one-chosen (x ∷ xs) (suc j) = omega (
    arith,
    over_each-ext xs (λ b rest. early b
        * (early x * sum_of_choices early late rest j + late x * sum_of_choices early late rest (suc j)))
        (λ b rest. early x * (early b * sum_of_choices early late rest j)
        + late x * (early b * sum_of_choices early late rest (suc j))) (λ b rest. turn
        (early b) (early x) (late x) (sum_of_choices early late rest j) (sum_of_choices early late rest (suc j))),
    over_each-add xs (λ b rest. early x * (early b * sum_of_choices early late rest j))
        (λ b rest. late x * (early b * sum_of_choices early late rest (suc j))),
    over_each-scale xs (early x) (λ b rest. early b * sum_of_choices early late rest j),
    over_each-scale xs (late x) (λ b rest. early b * sum_of_choices early late rest (suc j)),
    ap (λ m. early x * m) (one-chosen xs j),
    ap (λ m. late x * m) (one-chosen xs (suc j)),
  )
    where
      turn : (a b c d e : ℕ) → a * (b * d + c * e) ≡ b * (a * d) + c * (a * e)
      turn a b c d e = omega arith

  none-chosen : (xs : List ℕ) → sum_of_choices early late xs 0 ≡ product_over xs late
  none-chosen [] = refl
  none-chosen (x ∷ xs) = ap (λ m. late x * m) (none-chosen xs)

  -- the choices of up to m of some lives, each as often as they and the others can be ordered
  abbrev weighed : ℕ → List ℕ → ℕ
  weighed m xs =
      sum_over (numbers_from 0 (suc m)) (λ j. factorial j * factorial (m - j) * sum_of_choices early late xs j)

  weighed-more : (m : ℕ) (xs : List ℕ) → weighed (suc m) xs
      ≡ factorial (suc m) * product_over xs late + over_each xs (λ b rest. early b * weighed m rest)
  weighed-more m xs = omega (
    arith,
    start (suc m - 0) (omega arith),
    ap (λ k. factorial (suc m) * k) (none-chosen xs),
    sum_over-numbers_next (suc m) 0 (λ j. factorial j * factorial (suc m - j) * sum_of_choices early late xs j),
    sum_over-ext (numbers_from 0 (suc m)) _ _ (λ j. one j (suc m - suc j) (m - j) (omega arith)),
    over_each-ext xs (λ b rest. early b * weighed m rest) (λ b rest. sum_over
        (numbers_from 0 (suc m)) (λ j. early b * (factorial j * factorial (m - j) * sum_of_choices early late rest j)))
        (λ b rest. sym (sum_over-scale
        (numbers_from 0 (suc m)) (early b) (λ j. factorial j * factorial (m - j) * sum_of_choices early late rest j))),
    over_each-sum xs (numbers_from 0 (suc m))
        (λ b rest j. early b * (factorial j * factorial (m - j) * sum_of_choices early late rest j)),
  )
    where
      turn : (a b c d : ℕ) → a * (b * c * d) ≡ b * c * (a * d)
      turn a b c d = omega arith

      start : (k : ℕ) → k ≡ suc m → factorial 0 * factorial k * sum_of_choices early late xs 0
          ≡ factorial (suc m) * sum_of_choices early late xs 0
      start k e = rw e (omega arith)

      one : (j k l : ℕ) → k ≡ l → factorial (suc j) * factorial k * sum_of_choices early late xs (suc j)
          ≡ over_each xs (λ b rest. early b * (factorial j * factorial l * sum_of_choices early late rest j))
      one j k l e = rw e (omega (
        arith,
        over_each-ext xs (λ b rest. early b * (factorial j * factorial l * sum_of_choices early late rest j))
            (λ b rest. factorial j * factorial l * (early b * sum_of_choices early late rest j))
            (λ b rest. turn (early b) (factorial j) (factorial l) (sum_of_choices early late rest j)),
        over_each-scale xs (factorial j * factorial l) (λ b rest. early b * sum_of_choices early late rest j),
        ap (λ m. factorial j * factorial l * m) (one-chosen xs j),
      ))

-- a set with one life more
abbrev added : (ℕ → Bool) → ℕ → ℕ → Bool
added S a i = S i || nat_eq i a

added-at : (S : ℕ → Bool) (a : ℕ) → added S a a ≡ true
added-at S a = rw (nat_eq-same a) (each (S a))
  where
    each : (b : Bool) → (b || true) ≡ true
    each true = refl
    each false = refl

added-keeps : (S : ℕ → Bool) (a i : ℕ) → S i ≡ true → added S a i ≡ true
added-keeps S a i e = rw e refl

-- a life that is added and taken out again, before or after another
without-added : (S : ℕ → Bool) (a : ℕ) → S a ≡ false → without (added S a) a ≡ S
without-added S a none = fun_ext (λ i. ⊎_elim
    (λ h. rw (h.0, h.1, none) refl)
    (λ h. rw h.0 (each (S i)))
    (eqb_tells i a))
  where
    each : (b : Bool) → ((b || false) && not false) ≡ b
    each true = refl
    each false = refl

without-before : (S : ℕ → Bool) (a b : ℕ) → nat_eq a b ≡ false → without (added S a) b ≡ added (without S b) a
without-before S a b other = fun_ext (λ i. ⊎_elim
    (λ h. rw (h.0, h.1, other) (at-a (S a)))
    (λ h. rw h.0 (elsewhere (S i) (nat_eq i b)))
    (eqb_tells i a))
  where
    at-a : (c : Bool) → ((c || true) && not false) ≡ ((c && not false) || true)
    at-a true = refl
    at-a false = refl

    elsewhere : (c d : Bool) → ((c || false) && not d) ≡ ((c && not d) || false)
    elsewhere true true = refl
    elsewhere true false = refl
    elsewhere false d = refl

-- the lives of a set, each with the others of the set
over-lives : (n : ℕ) (S : ℕ → Bool) (h : ℕ → List ℕ → ℕ)
    → over_each (lives_in n S) h ≡ sum_over (lives_in n S) (λ b. h b (lives_in n (without S b)))
over-lives n S h = each-in S n 0 h ∙ sym (sum_over-kept S (numbers_from 0 n) (λ b. h b (lives_in n (without S b))))

module _ (n a : ℕ) (low : a < n) (early late : ℕ → ℕ) where
  abbrev by_order : (ℕ → Bool) → List ℕ → ℕ
  by_order S o = product_by_rank early late (rank_in o) a (lives_in n S)

  looks-at-both : (S : ℕ → Bool) → LooksOnlyAt (added S a) (by_order S)
  looks-at-both S o = product_over-kept_ext S (numbers_from 0 n) _ _ (λ i at-i. ap (λ t. cond t (early i) (late i))
      (rank-among (added S a) o i a (added-keeps S a i at-i) (added-at S a)))

  -- where a is first no other comes before it
  a-first : (S : ℕ → Bool) (o : List ℕ) → by_order S (a ∷ o) ≡ product_over (lives_in n S) late
  a-first S o = product_over-kept_ext S (numbers_from 0 n) _ _ (λ i at-i. ap (λ t. cond t (early i) (late i))
      (ap (λ m. nat_lt (rank_in (a ∷ o) i) m) (rank-first a o) ∙ not-before-first (rank_in (a ∷ o) i)))

  -- another that is first comes before a
  other-first : (S : ℕ → Bool) (b : ℕ)
      → S b ≡ true → b < n → nat_eq a b ≡ false → (o : List ℕ) → by_order S (b ∷ o) ≡ early b * by_order (without S b) o
  other-first S b at-b to other o = (taken-out S n 0 b at-b (omega arith) (omega arith)).1 _
      ∙ ap (λ m. m * product_over
      (lives_in n (without S b)) (λ i. cond (nat_lt (rank_in (b ∷ o) i) (rank_in (b ∷ o) a)) (early i) (late i)))
      (ap (λ t. cond t (early b) (late b)) (ap (λ m. nat_lt m (rank_in (b ∷ o) a)) (rank-first b o)
      ∙ ap (λ m. nat_lt 0 m) (rank-behind b o a other) ∙ first-of (rank_in o a)))
      ∙ ap (λ m. early b * m)
      (product_over-kept_ext (without S b) (numbers_from 0 n) _ _ (λ i at-i. ap (λ t. cond t (early i) (late i))
      (ap (λ m. nat_lt m (rank_in (b ∷ o) a)) (rank-behind b o i (apart S b i at-i))
      ∙ ap (λ m. nat_lt (1 + rank_in o i) m) (rank-behind b o a other) ∙ later (rank_in o i) (rank_in o a))))

  -- over the orders of a and the lives of a set
  abbrev around : (ℕ → Bool) → ℕ
  around S = sum_over (orders (lives_in n (added S a))) (by_order S)

  not-a : (S : ℕ → Bool) (b : ℕ) → S a ≡ false → S b ≡ true → nat_eq a b ≡ false
  not-a S b none at-b = ⊎_elim
      (λ h. absurd (let e : S a ≡ true = rw h.1 at-b in cc))
      (λ h. h.0)
      (eqb_tells a b)

  one-more-life : (S : ℕ → Bool) → S a ≡ false → length (lives_in n (added S a)) ≡ suc (length (lives_in n S))
  one-more-life S none = length-with n (added S a) a (added-at S a) low
      ∙ ap (λ T. suc (length (lives_in n T))) (without-added S a none)

  around-step : (S : ℕ → Bool) → S a ≡ false → around S ≡ factorial (length (lives_in n S))
      * product_over (lives_in n S) late + sum_over (lives_in n S) (λ b. early b * around (without S b))
  around-step S none = orders-first-or-none
      (lives_in n (added S a)) (by_order S) (λ e. absurd (omega (arith, one-more-life S none, ap length e)))
      ∙ over-lives n (added S a) (λ b rest. sum_over (orders rest) (λ o. by_order S (b ∷ o)))
      ∙ (taken-out (added S a) n 0 a (added-at S a) (omega arith) (omega arith)).0 _
      ∙ ap (λ m. m + sum_over (lives_in n (without (added S a) a))
      (λ b. sum_over (orders (lives_in n (without (added S a) b))) (λ o. by_order S (b ∷ o)))) at-a
      ∙ ap (λ T. factorial (length (lives_in n S)) * product_over (lives_in n S) late + sum_over
      (lives_in n T) (λ b. sum_over (orders (lives_in n (without (added S a) b))) (λ o. by_order S (b ∷ o))))
      (without-added S a none)
      ∙ ap (λ m. factorial (length (lives_in n S)) * product_over (lives_in n S) late + m)
      (lives_in-ext n S _ _ at-other)
    where
      at-a : sum_over (orders (lives_in n (without (added S a) a))) (λ o. by_order S (a ∷ o))
          ≡ factorial (length (lives_in n S)) * product_over (lives_in n S) late
      at-a = sum_over-ext (orders (lives_in n (without (added S a) a))) _ _ (a-first S)
          ∙ orders-count (lives_in n (without (added S a) a)) (product_over (lives_in n S) late)
          ∙ ap (λ T. factorial (length (lives_in n T)) * product_over (lives_in n S) late) (without-added S a none)

      at-other : (b : ℕ) → S b ≡ true → b < n → sum_over
          (orders (lives_in n (without (added S a) b))) (λ o. by_order S (b ∷ o)) ≡ early b * around (without S b)
      at-other b at-b to = ap (λ T. sum_over (orders (lives_in n T)) (λ o. by_order S (b ∷ o)))
          (without-before S a b (not-a S b none at-b))
          ∙ sum_over-ext
          (orders (lives_in n (added (without S b) a))) _ _ (other-first S b at-b to (not-a S b none at-b))
          ∙ sum_over-scale (orders (lives_in n (added (without S b) a))) (early b) (by_order (without S b))

  still-none : (S : ℕ → Bool) (b : ℕ) → S a ≡ false → without S b a ≡ false
  still-none S b none = rw none refl

  around-weighed : (m : ℕ) (S : ℕ → Bool)
      → S a ≡ false → length (lives_in n S) ≡ m → around S ≡ weighed early late m (lives_in n S)
  around-weighed zero S none size = around-step S none ∙ alone (lives_in n S) size
    where
      alone : (xs : List ℕ) → length xs ≡ 0 → factorial (length xs) * product_over xs late
          + sum_over xs (λ b. early b * around (without S b)) ≡ weighed early late 0 xs
      alone [] e = refl
      alone (x ∷ xs) e = absurd (omega (arith, e))
  around-weighed (suc m) S none size = around-step S none
      ∙ ap (λ k. factorial k * product_over (lives_in n S) late
      + sum_over (lives_in n S) (λ b. early b * around (without S b))) size
      ∙ ap (λ k. factorial (suc m) * product_over (lives_in n S) late + k)
      (lives_in-ext n S _ _ (λ b at-b to. ap (λ k. early b * k)
      (around-weighed m (without S b) (still-none S b none) (omega (arith, size, length-with n S b at-b to))))
      ∙ sym (over-lives n S (λ b rest. early b * weighed early late m rest)))
      ∙ sym (weighed-more early late m (lives_in n S))

pub mean-over-orders : MeanOverOrders
mean-over-orders n a low S none early late =
    ap (λ k. sum_over (orders (numbers_from 0 n)) (by_order n a low early late S) * factorial k)
    (sym (one-more-life n a low early late S none))
    ∙ orders-restrict
    (added S a) (by_order n a low early late S) (looks-at-both n a low early late S) (numbers_from 0 n)
    ∙ ap (λ k. factorial k * around n a low early late S) (length-numbers n 0)
    ∙ ap (λ k. factorial n * k) (around-weighed n a low early late (length (lives_in n S)) S none refl)

-- orders counted: the product of ones and zeros is one where exactly the lives of a set come before
abbrev one_if : Bool → ℕ
one_if b = cond b 1 0

counted : {X : Type 0} (test : X → Bool) (xs : List X) → length (filter test xs) ≡ sum_over xs (λ x. one_if (test x))
counted test [] = refl
counted test (x ∷ xs) = each (test x) (counted test xs)
  where
    each : (b : Bool) → length (filter test xs) ≡ sum_over xs (λ x. one_if (test x))
        → length (cond b (x ∷ filter test xs) (filter test xs)) ≡ one_if b + sum_over xs (λ x. one_if (test x))
    each true e = omega (arith, e)
    each false e = omega (arith, e)

exactly : (order : List ℕ) (a : ℕ) (J : ℕ → Bool) (xs : List ℕ) → product_by_rank
    (λ i. one_if (J i)) (λ i. one_if (not (J i))) (rank_in order) a xs ≡ one_if (exactly_before order a J xs)
exactly order a J [] = refl
exactly order a J (x ∷ xs) = each (nat_lt (rank_in order x) (rank_in order a)) (J x) (exactly order a J xs)
  where
    each : (t b : Bool) → product_by_rank (λ i. one_if (J i)) (λ i. one_if (not (J i))) (rank_in order) a xs
        ≡ one_if (exactly_before order a J xs)
        → cond t (one_if b) (one_if (not b)) * product_by_rank (λ i. one_if (J i))
        (λ i. one_if (not (J i))) (rank_in order) a xs ≡ one_if (cond t b (not b) && exactly_before order a J xs)
    each true true e = omega (arith, e)
    each true false e = omega arith
    each false true e = omega arith
    each false false e = omega (arith, e)

chosen : (J : ℕ → Bool) (xs : List ℕ) (j : ℕ)
    → sum_of_choices (λ i. one_if (J i)) (λ i. one_if (not (J i))) xs j ≡ one_if (nat_eq j (length (filter J xs)))
chosen J [] zero = refl
chosen J [] (suc j) = sym (ap one_if (past j))
  where
    past : (j : ℕ) → nat_eq (suc j) 0 ≡ false
    past j = grind (arith, nat_tests)
chosen J (x ∷ xs) zero = each (J x) (chosen J xs 0)
  where
    before : (k : ℕ) → nat_eq 0 (suc k) ≡ false
    before k = grind (arith, nat_tests)

    each : (b : Bool)
        → sum_of_choices (λ i. one_if (J i)) (λ i. one_if (not (J i))) xs 0 ≡ one_if (nat_eq 0 (length (filter J xs)))
        → one_if (not b) * sum_of_choices (λ i. one_if (J i)) (λ i. one_if (not (J i))) xs 0
        ≡ one_if (nat_eq 0 (length (cond b (x ∷ filter J xs) (filter J xs))))
    each true e = omega (arith, ap one_if (before (length (filter J xs))))
    each false e = omega (arith, e)
chosen J (x ∷ xs) (suc j) = each (J x) (chosen J xs j) (chosen J xs (suc j))
  where
    next : (j k : ℕ) → nat_eq j k ≡ nat_eq (suc j) (suc k)
    next j k = grind (arith, nat_tests)

    each : (b : Bool)
        → sum_of_choices (λ i. one_if (J i)) (λ i. one_if (not (J i))) xs j ≡ one_if (nat_eq j (length (filter J xs)))
        → sum_of_choices (λ i. one_if (J i)) (λ i. one_if (not (J i))) xs (suc j)
        ≡ one_if (nat_eq (suc j) (length (filter J xs)))
        → one_if b * sum_of_choices (λ i. one_if (J i)) (λ i. one_if (not (J i))) xs j
        + one_if (not b) * sum_of_choices (λ i. one_if (J i)) (λ i. one_if (not (J i))) xs (suc j)
        ≡ one_if (nat_eq (suc j) (length (cond b (x ∷ filter J xs) (filter J xs))))
    each true e f = omega (arith, e, ap one_if (next j (length (filter J xs))))
    each false e f = omega (arith, f)

kept-twice : (S J : ℕ → Bool)
    → ((i : ℕ) → J i ≡ true → S i ≡ true) → (xs : List ℕ) → filter J (filter S xs) ≡ filter J xs
kept-twice S J part [] = refl
kept-twice S J part (x ∷ xs) = each (S x) (J x) refl refl (kept-twice S J part xs)
  where
    each : (b c : Bool) → S x ≡ b → J x ≡ c → filter J (filter S xs) ≡ filter J xs
        → filter J (cond b (x ∷ filter S xs) (filter S xs)) ≡ cond c (x ∷ filter J xs) (filter J xs)
    each true true e f rest = rw (f, rest) refl
    each true false e f rest = rw f rest
    each false true e f rest = absurd (let h : S x ≡ true = part x f in cc)
    each false false e f rest = rest

fewer : (J : ℕ → Bool) (xs : List ℕ) → length (filter J xs) ≤ length xs
fewer J [] = omega arith
fewer J (x ∷ xs) = each (J x) (fewer J xs)
  where
    each : (b : Bool)
        → length (filter J xs) ≤ length xs → length (cond b (x ∷ filter J xs) (filter J xs)) ≤ length (x ∷ xs)
    each true e = omega (arith, e)
    each false e = omega (arith, e)

pick-none : (count first k : ℕ) (h : ℕ → ℕ)
    → k < first → sum_over (numbers_from first count) (λ i. h i * one_if (nat_eq i k)) ≡ 0
pick-none zero first k h low = refl
pick-none (suc count) first k h low =
    omega (arith, ap (λ b. h first * one_if b) (above first k low), pick-none count (suc first) k h (omega arith))

pick : (count first k : ℕ) (h : ℕ → ℕ)
    → first ≤ k → k < first + count → sum_over (numbers_from first count) (λ i. h i * one_if (nat_eq i k)) ≡ h k
pick zero first k h low high = absurd (omega arith)
pick (suc count) first k h low high = ⊎_elim
    (λ before. omega (
      arith,
      ap (λ b. h first * one_if b) (below first k before),
      pick count (suc first) k h (omega arith) (omega arith),
    ))
    (λ reached. let e : first ≡ k = omega arith in
    rw e (omega (arith, ap (λ b. h k * one_if b) (nat_eq-same k), pick-none count (suc k) k h (omega arith))))
    (cases_lt first k)

-- C(j + k, j) times j! k! is (j + k)!
choose-whole : (n : ℕ) → choose n n ≡ 1
choose-whole zero = refl
choose-whole (suc n) = omega (arith, choose-whole n, choose-past n (suc n) (omega arith))

choose-factorials : (j k n : ℕ) → n ≡ j + k → choose n j * (factorial j * factorial k) ≡ factorial n
choose-factorials zero k n e = rw e (let none : 0 + k ≡ k = omega arith in rw none (omega arith))
choose-factorials (suc j) zero n e = let all : n ≡ suc j = omega (arith, e) in
    rw all (rw (choose-whole (suc j)) (omega arith))
choose-factorials (suc j) (suc k) zero e = absurd (omega arith)
choose-factorials (suc j) (suc k) (suc n) e =
    let with = choose-factorials j (suc k) n (omega arith) in
    let without = choose-factorials (suc j) k n (omega arith) in
    let both : suc n ≡ suc j + suc k = e in
    together (choose n j) (choose n (suc j)) (factorial j) (factorial k) (factorial n) with without
  where
    together : (a b f g h : ℕ)
        → a * (f * (suc k * g)) ≡ h → b * (suc j * f * g) ≡ h → (a + b) * (suc j * f * (suc k * g)) ≡ suc n * h
    together a b f g h with without =
        let p : suc j * (a * (f * (suc k * g))) ≡ suc j * h = ap (λ m. suc j * m) with in
        let q : suc k * (b * (suc j * f * g)) ≡ suc k * h = ap (λ m. suc k * m) without in
        let r : suc n * h ≡ (suc j + suc k) * h = ap (λ m. m * h) e in
        omega arith

mul-cancel : (x z f : ℕ) → 0 < f → x * f ≡ z * f → x ≡ z
mul-cancel x z f some e =
    let p : x ≤ z = le_of_mul-le-mul_right (omega (arith, e)) some in
    let q : z ≤ x = le_of_mul-le-mul_right (omega (arith, e)) some in
    omega arith

pub orders-counted : OrdersCounted
orders-counted n a low S J none part =
    let s = length (lives_in n S) in
    let j = length (filter J (lives_in n S)) in
    let inside : length (lives_in n J) ≡ j = ap length (sym (kept-twice S J part (numbers_from 0 n))) in
    let few : j ≤ s = fewer J (lives_in n S) in
    let count = length (filter (λ order. exactly_before order a J (lives_in n S)) (orders (numbers_from 0 n))) in
    let sum : count ≡ sum_over (orders (numbers_from 0 n))
    (λ order. product_by_rank (λ i. one_if (J i)) (λ i. one_if (not (J i))) (rank_in order) a (lives_in n S)) =
    counted (λ order. exactly_before order a J (lives_in n S)) (orders (numbers_from 0 n))
    ∙ sum_over-ext (orders (numbers_from 0 n)) _ _ (λ order. sym (exactly order a J (lives_in n S))) in
    let picked : sum_over (numbers_from 0 (suc s)) (λ i. factorial i * factorial (s - i) * sum_of_choices
    (λ i. one_if (J i)) (λ i. one_if (not (J i))) (lives_in n S) i) ≡ factorial j * factorial (s - j) =
    sum_over-ext
    (numbers_from 0 (suc s)) _ _ (λ i. ap (λ m. factorial i * factorial (s - i) * m) (chosen J (lives_in n S) i))
    ∙ pick (suc s) 0 j (λ i. factorial i * factorial (s - i)) (omega arith) (omega arith) in
    let whole : count * factorial (suc s) ≡ factorial n * (factorial j * factorial (s - j)) =
    ap (λ m. m * factorial (suc s)) sum ∙ mean-over-orders n a low S none (λ i. one_if (J i)) (λ i. one_if (not (J i)))
    ∙ ap (λ m. factorial n * m) picked in
    let parts : choose s j * (factorial j * factorial (s - j)) ≡ factorial s =
    choose-factorials j (s - j) s (omega arith) in
    rw inside (cancel count s (choose s j) (factorial j * factorial (s - j))
    (factorial s) (factorial n) (mul-pos (factorial-some j) (factorial-some (s - j))) parts whole)
  where
    cancel : (count s c f g h : ℕ) → 0 < f → c * f ≡ g → count * (suc s * g) ≡ h * f → count * (suc s * c) ≡ h
    cancel count s c f g h some e whole = mul-cancel (count * (suc s * c)) h f some
        (let p : count * suc s * (c * f) ≡ count * suc s * g = ap (λ m. count * suc s * m) e in omega arith)

-- each life of a set is the first of it in equally many orders
pub first-leaving-evenly : FirstLeavingEvenly
first-leaving-evenly n y S = each (length (lives_in n S)) refl
  where
    A : (ℕ → Bool) → ℕ
    A = first_leaving_evenly n y

    share : ℕ → ℕ
    share b = y.leaving b * (factorial n * all_alive n y (without S b)) + y.staying b * A (without S b)

    nobody : (xs : List ℕ) → length xs ≡ 0 → 0 ≡ sum_over xs share
    nobody [] e = refl
    nobody (x ∷ xs) e = absurd (omega (arith, e))

    one : (m b : ℕ) → length (lives_in n (without S b)) ≡ m → factorial n * first_share n y S b ≡ share b * factorial m
    one m b size = let e : A (without S b) * factorial m
        ≡ factorial n * among n y (without S b) = rw (← size) (evenly-among n y (without S b)) in
        rw size (together (y.leaving b) (y.staying b)
        (factorial n) (factorial m) (all_alive n y (without S b)) (among n y (without S b)) (A (without S b)) e)
      where
        together : (q p f g a k t : ℕ) → t * g ≡ f * k → f * (q * (g * a) + p * k) ≡ (q * (f * a) + p * t) * g
        together q p f g a k t e = let r : p * (t * g) ≡ p * (f * k) = ap (λ m. p * m) e in omega arith

    each : (size : ℕ) → length (lives_in n S) ≡ size → length (lives_in n S) * A S ≡ sum_over (lives_in n S) share
    each zero e = ap (λ k. k * A S) e ∙ omega arith ∙ nobody (lives_in n S) e
    each (suc m) e =
        mul-cancel (length (lives_in n S) * A S) (sum_over (lives_in n S) share) (factorial m) (factorial-some m)
        (ap (λ k. k * A S * factorial m) e ∙ turn m (A S) (factorial m)
        ∙ ap (λ k. A S * factorial k) (sym e) ∙ evenly-among n y S
        ∙ ap (λ k. factorial n * k) (among-step n y S ∙ sym (sum_over-kept S (numbers_from 0 n) (first_share n y S)))
        ∙ sym (sum_over-scale (lives_in n S) (factorial n) (first_share n y S))
        ∙ lives_in-ext n S _ _ (λ b at-b low. one m b (omega (arith, e, length-with n S b at-b low)))
        ∙ sum_over-scale_right (lives_in n S) (factorial m) share)
      where
        turn : (m a f : ℕ) → suc m * a * f ≡ a * (suc m * f)
        turn m a f = omega arith
