-- The chance of a status of independent lives, as a sum over all sets of them, and over the outcomes of lives.
use Rattle.std.proofs.Common.{◌≡◌, ◌≢◌, ℕ, zero, suc, ◌+◌, ◌-◌, ◌*◌, ◌<◌, ◌≤◌, arith, refl, ap, sym, ◌∙◌, List, [], ◌∷◌, length, Bool, true, false, cond, nat_eq, ℤ, pos, ◌+ℤ◌, ◌*ℤ◌, ◌-ℤ◌}
use Rattle.std.proofs.Math.IntN.{*ℤ-zero}
use Rattle.std.proofs.lemmas.Int.{ints}
use Rattle.halo_sums.specs.Sums.{indicator, int_sum_over, numbers_from, product_over}
use Rattle.halo_sums.specs.Sets.{in_set, sets}
use Rattle.halo_sums.proofs.Integers.{mul_add, mul_assoc, mul_left_comm, sub_mul}
use Rattle.halo_sums.proofs.IntSums.{int_sum_over-add, int_sum_over-ext, int_sum_over-none, int_sum_over-scale}
use Rattle.halo_sums.proofs.Sets.{int_sum_over-sets}
use Rattle.halo_status.specs.Exists.{exists}
use Rattle.halo_model.specs.Life.{AreLives, IsLife, PlainLife, after_first}
use Rattle.halo_model.specs.Outcome.{joint_survivors}
use Rattle.halo_model.specs.Expectation.{exactly_there, gone_if, survivors_if}
use Rattle.halo_model.specs.ByTree.{weight_of, whole_of}
use Rattle.halo_model.specs.Independent.{set_weight, started_of, survivors_of}
use Rattle.halo_model.specs.ByTreeLaws.{AreChances, ExistenceByTree, ExpectedByTree}
use Rattle.halo_status.proofs.Agreement.{same}
use Rattle.halo_model.proofs.BySets.{expected-by-sets}
use Rattle.halo_model.proofs.ByTree.{Ignores, tree-expected}

-- a factor of each term
factor-out : (us : List (List Bool)) (c : ℤ) (w f joined : List Bool → ℤ)
    → ((u : List Bool) → joined u ≡ (c *ℤ w u) *ℤ f u) → int_sum_over us joined ≡ c *ℤ int_sum_over us (λ u. w u *ℤ f u)
factor-out us c w f joined h = int_sum_over-ext us _ _ (λ u. h u ∙ mul_assoc c (w u) (f u))
    ∙ int_sum_over-scale us c (λ u. w u *ℤ f u)

-- two sums over the sets of n lives, those without one more life and those with it
pub halves : (count : ℕ) (n d : ℕ → ℕ) (f : List Bool → ℤ)
    → int_sum_over (sets (suc count)) (λ u. set_weight n d u *ℤ f u)
    ≡ (pos (d 0) -ℤ pos (n 0))
    *ℤ int_sum_over (sets count) (λ u. set_weight (after_first n) (after_first d) u *ℤ f (false ∷ u))
    +ℤ pos (n 0) *ℤ int_sum_over (sets count) (λ u. set_weight (after_first n) (after_first d) u *ℤ f (true ∷ u))
halves count n d f = int_sum_over-sets count (λ u. set_weight n d u *ℤ f u)
    ∙ ap (λ z. z +ℤ int_sum_over (sets count) (λ u. set_weight n d (true ∷ u) *ℤ f (true ∷ u)))
    (factor-out (sets count) (pos (d 0) -ℤ pos (n 0)) (set_weight (after_first n) (after_first d))
    (λ u. f (false ∷ u)) (λ u. set_weight n d (false ∷ u) *ℤ f (false ∷ u)) (λ u. refl))
    ∙ ap (λ z. (pos (d 0) -ℤ pos (n 0))
    *ℤ int_sum_over (sets count) (λ u. set_weight (after_first n) (after_first d) u *ℤ f (false ∷ u)) +ℤ z)
    (factor-out (sets count) (pos (n 0)) (set_weight (after_first n) (after_first d))
    (λ u. f (true ∷ u)) (λ u. set_weight n d (true ∷ u) *ℤ f (true ∷ u)) (λ u. refl))

-- what counts nothing with a life outside, and all with it inside
share : (a b x y : ℤ) → x ≡ y → a *ℤ ((a -ℤ b) *ℤ pos 0 +ℤ b *ℤ x) ≡ b *ℤ ((a -ℤ b) *ℤ y +ℤ b *ℤ x)
share a b x y e =
    omega (arith, ints, ap (λ z. a *ℤ z) (nothing (b *ℤ x)), mul_left_comm a b x, ap (λ z. b *ℤ z) together)
  where
    nothing : (z : ℤ) → (a -ℤ b) *ℤ pos 0 +ℤ z ≡ z
    nothing z = omega (arith, ints)

    together : (a -ℤ b) *ℤ y +ℤ b *ℤ x ≡ a *ℤ x
    together = rw (sym e) (omega (arith, ints, sub_mul a b x))

-- shares of two sums together
shares : (a b c e x y v w : ℤ) → a *ℤ x ≡ b *ℤ v → a *ℤ y ≡ b *ℤ w → a *ℤ (c *ℤ x +ℤ e *ℤ y) ≡ b *ℤ (c *ℤ v +ℤ e *ℤ w)
shares a b c e x y v w p q = mul_add a (c *ℤ x) (e *ℤ y)
    ∙ ap (λ z. z +ℤ a *ℤ (e *ℤ y)) (mul_left_comm a c x ∙ ap (λ z. c *ℤ z) p ∙ mul_left_comm c b v)
    ∙ ap (λ z. b *ℤ (c *ℤ v) +ℤ z) (mul_left_comm a e y ∙ ap (λ z. e *ℤ z) q ∙ mul_left_comm e b w)
    ∙ sym (mul_add b (c *ℤ v) (e *ℤ w))

-- a function of sets that does not look at a life
abbrev Unmoved : ℕ → (List Bool → ℤ) → Type 0
Unmoved i f = (u v : List Bool) → ((j : ℕ) → j ≢ i → in_set u j ≡ in_set v j) → f u ≡ f v

in_set-tail : (i : ℕ) (b : Bool) (u v : List Bool)
    → ((j : ℕ) → j ≢ i → in_set u j ≡ in_set v j) → (j : ℕ) → j ≢ suc i → in_set (b ∷ u) j ≡ in_set (b ∷ v) j
in_set-tail i b u v a zero other = refl
in_set-tail i b u v a (suc j) other = a j (λ e. other (ap suc e))

in_set-head : (b c : Bool) (u : List Bool) (j : ℕ) → j ≢ 0 → in_set (b ∷ u) j ≡ in_set (c ∷ u) j
in_set-head b c u zero other = absurd (other refl)
in_set-head b c u (suc j) other = refl

-- a life is there in its share of any sum that does not look at it
life-apart : (count : ℕ) (n d : ℕ → ℕ) (i : ℕ) → i < count → (f : List Bool → ℤ) → Unmoved i f
    → pos (d i) *ℤ int_sum_over (sets count) (λ u. set_weight n d u *ℤ (indicator (in_set u i) *ℤ f u))
    ≡ pos (n i) *ℤ int_sum_over (sets count) (λ u. set_weight n d u *ℤ f u)
life-apart zero n d i h f unmoved = absurd (omega arith)
life-apart (suc count) n d zero h f unmoved =
    ap (λ z. pos (d 0) *ℤ z) (halves count n d (λ u. indicator (in_set u 0) *ℤ f u)
    ∙ ap (λ z. (pos (d 0) -ℤ pos (n 0)) *ℤ z
    +ℤ pos (n 0) *ℤ int_sum_over (sets count) (λ u. weight u *ℤ (pos 1 *ℤ f (true ∷ u))))
    (int_sum_over-ext (sets count) _ _ (λ u. nothing (weight u) (f (false ∷ u))) ∙ int_sum_over-none (sets count))
    ∙ ap (λ z. (pos (d 0) -ℤ pos (n 0)) *ℤ pos 0 +ℤ pos (n 0) *ℤ z)
    (int_sum_over-ext (sets count) _ _ (λ u. ap (λ z. weight u *ℤ z) (all (f (true ∷ u))))))
    ∙ share (pos (d 0)) (pos (n 0)) _ _ (int_sum_over-ext
    (sets count) _ _ (λ u. ap (λ z. weight u *ℤ z) (unmoved (true ∷ u) (false ∷ u) (in_set-head true false u))))
    ∙ ap (λ z. pos (n 0) *ℤ z) (sym (halves count n d f))
  where
    weight : List Bool → ℤ
    weight = set_weight (after_first n) (after_first d)

    nothing : (w z : ℤ) → w *ℤ (pos 0 *ℤ z) ≡ pos 0
    nothing w z = ap (λ y. w *ℤ y) (none z) ∙ *ℤ-zero w
      where
        none : (z : ℤ) → pos 0 *ℤ z ≡ pos 0
        none z = omega (arith, ints)

    all : (z : ℤ) → pos 1 *ℤ z ≡ z
    all z = omega (arith, ints)
life-apart (suc count) n d (suc i) h f unmoved =
    ap (λ z. pos (d (suc i)) *ℤ z) (halves count n d (λ u. indicator (in_set u (suc i)) *ℤ f u))
    ∙ shares (pos (d (suc i))) (pos (n (suc i))) (pos (d 0) -ℤ pos (n 0)) (pos (n 0)) _ _ _ _
    (life-apart count (after_first n) (after_first d) i
    (omega arith) (λ u. f (false ∷ u)) (λ u v a. unmoved (false ∷ u) (false ∷ v) (in_set-tail i false u v a)))
    (life-apart count (after_first n) (after_first d) i
    (omega arith) (λ u. f (true ∷ u)) (λ u v a. unmoved (true ∷ u) (true ∷ v) (in_set-tail i true u v a)))
    ∙ ap (λ z. pos (n (suc i)) *ℤ z) (sym (halves count n d f))

pub product_over-later : (count first : ℕ) (d : ℕ → ℕ)
    → product_over (numbers_from (suc first) count) d ≡ product_over (numbers_from first count) (after_first d)
product_over-later zero first d = refl
product_over-later (suc count) first d = ap (λ z. d (suc first) * z) (product_over-later count (suc first) d)

-- all sets together weigh the product of the wholes
all-sets : (count : ℕ) (n d : ℕ → ℕ)
    → int_sum_over (sets count) (λ u. set_weight n d u *ℤ pos 1) ≡ pos (product_over (numbers_from 0 count) d)
all-sets zero n d = refl
all-sets (suc count) n d = halves count n d (λ u. pos 1)
    ∙ both
    (pos (d 0)) (pos (n 0)) (int_sum_over (sets count) (λ u. set_weight (after_first n) (after_first d) u *ℤ pos 1))
    ∙ ap (λ z. pos (d 0) *ℤ z)
    (all-sets count (after_first n) (after_first d) ∙ ap pos (sym (product_over-later count 0 d)))
  where
    both : (a b x : ℤ) → (a -ℤ b) *ℤ x +ℤ b *ℤ x ≡ a *ℤ x
    both a b x = omega (arith, ints, sub_mul a b x)

-- the sum over all sets, as an expectation of functions of the lives that are there
module _ (count : ℕ) (n d : ℕ → ℕ) where
  abbrev by_sets : ((ℕ → Bool) → ℤ) → ℤ
  by_sets f = int_sum_over (sets count) (λ u. set_weight n d u *ℤ f (in_set u))

  by_sets-adds : (f g : (ℕ → Bool) → ℤ) → by_sets (λ v. f v +ℤ g v) ≡ by_sets f +ℤ by_sets g
  by_sets-adds f g = int_sum_over-ext (sets count) _ _ (λ u. mul_add (set_weight n d u) (f (in_set u)) (g (in_set u)))
      ∙ int_sum_over-add (sets count) _ _

  by_sets-scales : (c : ℤ) (f : (ℕ → Bool) → ℤ) → by_sets (λ v. c *ℤ f v) ≡ c *ℤ by_sets f
  by_sets-scales c f = int_sum_over-ext (sets count) _ _ (λ u. mul_left_comm (set_weight n d u) c (f (in_set u)))
      ∙ int_sum_over-scale (sets count) c _

  by_sets-one : (i : ℕ) → i < count → (h : (ℕ → Bool) → ℤ) → Ignores (λ j. cond (nat_eq j i) 1 0) h
      → pos (d i) *ℤ by_sets (λ v. indicator (v i) *ℤ h v) ≡ pos (n i) *ℤ by_sets h
  by_sets-one i within h ignores = life-apart count n d i within
      (λ u. h (in_set u)) (λ u v a. ignores (in_set u) (in_set v) (λ j e. a j (other j i e)))
    where
      other : (j i : ℕ) → ◌≡◌ {A = ℕ} (cond (nat_eq j i) 1 0) 0 → j ≢ i
      other j i e equal = absurd (let q : ◌≡◌ {A = ℕ} 1 0 = rw (equal, same i) at e in omega (arith, q))

pub existence-by-tree : ExistenceByTree
existence-by-tree count n d proper on s once named =
    ap (λ z. pos (whole_of d s) *ℤ z) (int_sum_over-ext
    (sets count) _ _ (λ u. ap (λ z. set_weight n d u *ℤ z) (times-one (indicator (exists (in_set u) on s)))))
    ∙ tree-expected (by_sets count n d) (by_sets-adds count n d)
    (by_sets-scales count n d) n d proper count (by_sets-one count n d) on s once named (λ v. pos 1) (λ u v a. refl)
    ∙ ap (λ z. pos (weight_of n d on s) *ℤ z) (all-sets count n d)
  where
    times-one : (z : ℤ) → z ≡ z *ℤ pos 1
    times-one z = omega (arith, ints)

-- the survivors of a life fall
survivors-fall : (x : PlainLife) → IsLife x → (T k : ℕ) → x.survivors (T + k) ≤ x.survivors T
survivors-fall x rule T zero = rw (plus-zero T) (omega arith)
  where
    plus-zero : (n : ℕ) → n + 0 ≡ n
    plus-zero n = omega arith
survivors-fall x rule T (suc k) = rw (one-later T k) (omega (arith, survivors-fall x rule T k, next (T + k)))
  where
    one-later : (n k : ℕ) → n + suc k ≡ suc (n + k)
    one-later n k = omega arith

    next : (m : ℕ) → x.survivors (suc m) ≤ x.survivors m
    next m = omega (arith, rule.falls m)

pub survivors_of-le : (times : ℕ → ℕ) (T : ℕ) → ((i : ℕ) → T ≤ times i) → (S : ℕ → Bool) (lives : List PlainLife)
    → AreLives lives → AreChances (survivors_of times S lives) (started_of T S lives)
survivors_of-le times T from S [] rule i = omega arith
survivors_of-le times T from S (x ∷ lives) rule zero = if-alive (S 0)
  where
    later : x.survivors (times 0) ≤ x.survivors T
    later = rw (beyond T (times 0) (from 0)) (survivors-fall x rule.0 T (times 0 - T))
      where
        beyond : (T t : ℕ) → T ≤ t → t ≡ T + (t - T)
        beyond T t h = omega arith

    if-alive : (alive : Bool) → cond alive (x.survivors (times 0)) 0 ≤ cond alive (x.survivors T) 1
    if-alive true = later
    if-alive false = omega arith
survivors_of-le times T from S (x ∷ lives) rule (suc i) =
    survivors_of-le (after_first times) T (λ j. from (suc j)) (after_first S) lives rule.1 i

-- the weight with which exactly the lives of a set are there is that of their survivors
pub lives-by-sets : (times : ℕ → ℕ) (T : ℕ) (S : ℕ → Bool) (lives : List PlainLife) (f : List Bool → ℤ)
    → int_sum_over (sets (length lives)) (λ u. exactly_there times T S lives u *ℤ f u) ≡ int_sum_over
    (sets (length lives)) (λ u. set_weight (survivors_of times S lives) (started_of T S lives) u *ℤ f u)
lives-by-sets times T S [] f = refl
lives-by-sets times T S (x ∷ lives) f =
    int_sum_over-sets (length lives) (λ u. exactly_there times T S (x ∷ lives) u *ℤ f u)
    ∙ ap (λ z. z
    +ℤ int_sum_over (sets (length lives)) (λ u. exactly_there times T S (x ∷ lives) (true ∷ u) *ℤ f (true ∷ u)))
    (half false (gone_if (S 0) x T (times 0)) (λ u. refl)
    (lives-by-sets (after_first times) T (after_first S) lives) ∙ ap (λ z. z *ℤ rest false) (without (S 0)))
    ∙ ap (λ z. (pos (started 0) -ℤ pos (there 0)) *ℤ rest false +ℤ z) (half true (survivors_if (S 0) x (times 0))
    (λ u. refl) (lives-by-sets (after_first times) T (after_first S) lives) ∙ ap (λ z. z *ℤ rest true) (with (S 0)))
    ∙ sym (halves (length lives) there started f)
  where
    there : ℕ → ℕ
    there = survivors_of times S (x ∷ lives)

    started : ℕ → ℕ
    started = started_of T S (x ∷ lives)

    rest : Bool → ℤ
    rest b =
        int_sum_over (sets (length lives)) (λ u. set_weight (after_first there) (after_first started) u *ℤ f (b ∷ u))

    half : (b : Bool) (c : ℤ) → ((u : List Bool) → exactly_there times T S (x ∷ lives) (b ∷ u)
        ≡ c *ℤ exactly_there (after_first times) T (after_first S) lives u)
        → ((g : List Bool → ℤ) → int_sum_over
        (sets (length lives)) (λ u. exactly_there (after_first times) T (after_first S) lives u *ℤ g u)
        ≡ int_sum_over (sets (length lives)) (λ u. set_weight (after_first there) (after_first started) u *ℤ g u))
        → int_sum_over
        (sets (length lives)) (λ u. exactly_there times T S (x ∷ lives) (b ∷ u) *ℤ f (b ∷ u)) ≡ c *ℤ rest b
    half b c h others = factor-out (sets (length lives)) c (exactly_there (after_first times) T (after_first S) lives)
        (λ u. f (b ∷ u)) _ (λ u. ap (λ z. z *ℤ f (b ∷ u)) (h u))
        ∙ ap (λ z. c *ℤ z) (others (λ u. f (b ∷ u)))

    with : (alive : Bool) → survivors_if alive x (times 0) ≡ pos (cond alive (x.survivors (times 0)) 0)
    with true = refl
    with false = refl

    without : (alive : Bool)
        → gone_if alive x T (times 0) ≡ pos (cond alive (x.survivors T) 1) -ℤ pos (cond alive (x.survivors (times 0)) 0)
    without true = refl
    without false = refl

-- the joint survivors are the product of the wholes
pub all-started : (T : ℕ) (S : ℕ → Bool) (lives : List PlainLife)
    → product_over (numbers_from 0 (length lives)) (started_of T S lives) ≡ joint_survivors T S lives
all-started T S [] = refl
all-started T S (x ∷ lives) = ap (λ z. cond (S 0) (x.survivors T) 1 * z)
    (product_over-later (length lives) 0 (started_of T S (x ∷ lives)) ∙ all-started T (after_first S) lives)

pub expected-by-tree : ExpectedByTree
expected-by-tree times T from S lives rule on s once named =
    ap (λ z. pos (whole_of (started_of T S lives) s) *ℤ z)
    (expected-by-sets times T from S lives rule (λ u. indicator (exists (in_set u) on s))
    ∙ lives-by-sets times T S lives (λ u. indicator (exists (in_set u) on s)))
    ∙ existence-by-tree (length lives)
    (survivors_of times S lives) (started_of T S lives) (survivors_of-le times T from S lives rule) on s once named
    ∙ ap (λ z. pos (weight_of (survivors_of times S lives) (started_of T S lives) on s) *ℤ pos z)
    (all-started T S lives)
