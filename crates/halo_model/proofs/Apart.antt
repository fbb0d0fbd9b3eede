-- The weight with which the lives of a set are there, where only some lives are alive at the start: 0 unless all of the
-- set are, and then the weight of the set alone times the survivors of the others.
use Rattle.std.proofs.Common.{◌≡◌, ℕ, zero, suc, ◌*◌, ◌<◌, arith, refl, ap, sym, ◌∙◌, List, [], ◌∷◌, length, Bool, true, false, ℤ, pos, ◌+ℤ◌, ◌*ℤ◌}
use Rattle.std.proofs.lemmas.Int.{ints}
use Rattle.halo_sums.specs.Sums.{int_sum_over}
use Rattle.halo_sums.specs.Sets.{in_set, sets, subsets}
use Rattle.halo_sums.proofs.Integers.{mul_assoc, mul_left_comm, pos_mul}
use Rattle.halo_sums.proofs.IntSums.{int_sum_over-ext, int_sum_over-none}
use Rattle.halo_sums.proofs.Sets.{int_sum_over-sets, int_sum_over-subsets_with, int_sum_over-subsets_without}
use Rattle.halo_model.specs.Backward.{outside}
use Rattle.halo_model.specs.Life.{PlainLife, after_first, leavers_by}
use Rattle.halo_model.specs.Outcome.{joint_survivors}
use Rattle.halo_model.specs.Expectation.{all_there, all_there_at_leaving, survivors_if, whole_if}

-- the second set has a number that the first lacks
abbrev pub GoesBeyond : List Bool → List Bool → Type 0
GoesBeyond (false ∷ u) (true ∷ s) = Unit {0}
GoesBeyond (b ∷ u) (c ∷ s) = GoesBeyond u s
GoesBeyond _ _ = ⊥

-- the second set lies in the first
abbrev pub LiesIn : List Bool → List Bool → Type 0
LiesIn [] [] = Unit {0}
LiesIn (false ∷ u) (true ∷ s) = ⊥
LiesIn (b ∷ u) (c ∷ s) = LiesIn u s
LiesIn _ _ = ⊥

-- a sum over all sets of what is 0 beyond a set is one over its subsets
pub sum-within : (u : List Bool) (h : List Bool → ℤ)
    → ((s : List Bool) → GoesBeyond u s → h s ≡ pos 0) → int_sum_over (sets (length u)) h ≡ int_sum_over (subsets u) h
sum-within [] h none = refl
sum-within (true ∷ u) h none = int_sum_over-sets (length u) h
    ∙ ap (λ z. z +ℤ int_sum_over (sets (length u)) (λ s. h (true ∷ s)))
    (sum-within u (λ s. h (false ∷ s)) (λ s beyond. none (false ∷ s) beyond))
    ∙ ap (λ z. int_sum_over (subsets u) (λ s. h (false ∷ s)) +ℤ z)
    (sum-within u (λ s. h (true ∷ s)) (λ s beyond. none (true ∷ s) beyond))
    ∙ sym (int_sum_over-subsets_with u h)
sum-within (false ∷ u) h none = int_sum_over-sets (length u) h
    ∙ ap (λ z. z +ℤ int_sum_over (sets (length u)) (λ s. h (true ∷ s)))
    (sum-within u (λ s. h (false ∷ s)) (λ s beyond. none (false ∷ s) beyond))
    ∙ ap (λ z. int_sum_over (subsets u) (λ s. h (false ∷ s)) +ℤ z)
    (int_sum_over-ext (sets (length u)) _ _ (λ s. none (true ∷ s) tt) ∙ int_sum_over-none (sets (length u)))
    ∙ with-nothing (int_sum_over (subsets u) (λ s. h (false ∷ s)))
    ∙ sym (int_sum_over-subsets_without u h)
  where
    with-nothing : (z : ℤ) → z +ℤ pos 0 ≡ z
    with-nothing z = omega (arith, ints)

-- what is equal at each subset is equal in sum
pub subsets-ext : (u : List Bool) (f g : List Bool → ℤ)
    → ((s : List Bool) → LiesIn u s → f s ≡ g s) → int_sum_over (subsets u) f ≡ int_sum_over (subsets u) g
subsets-ext [] f g h = ap (λ z. z +ℤ pos 0) (h [] tt)
subsets-ext (true ∷ u) f g h = int_sum_over-subsets_with u f
    ∙ ap (λ z. z +ℤ int_sum_over (subsets u) (λ s. f (true ∷ s)))
    (subsets-ext u (λ s. f (false ∷ s)) (λ s. g (false ∷ s)) (λ s lies. h (false ∷ s) lies))
    ∙ ap (λ z. int_sum_over (subsets u) (λ s. g (false ∷ s)) +ℤ z)
    (subsets-ext u (λ s. f (true ∷ s)) (λ s. g (true ∷ s)) (λ s lies. h (true ∷ s) lies))
    ∙ sym (int_sum_over-subsets_with u g)
subsets-ext (false ∷ u) f g h = int_sum_over-subsets_without u f
    ∙ subsets-ext u (λ s. f (false ∷ s)) (λ s. g (false ∷ s)) (λ s lies. h (false ∷ s) lies)
    ∙ sym (int_sum_over-subsets_without u g)

no-times : (z : ℤ) → pos 0 *ℤ z ≡ pos 0
no-times z = omega (arith, ints)

pub zero-after : (c z : ℤ) → z ≡ pos 0 → c *ℤ z ≡ pos 0
zero-after c z e = rw e (times-no c)
  where
    times-no : (z : ℤ) → z *ℤ pos 0 ≡ pos 0
    times-no z = omega (arith, ints)

-- nobody of a set is there who was not alive at the start
pub beyond-there : (times : ℕ → ℕ) (T : ℕ) (lives : List PlainLife) (u s : List Bool)
    → length u ≡ length lives → GoesBeyond u s → all_there times T (in_set u) lives s ≡ pos 0
beyond-there times T lives [] s len beyond = absurd beyond
beyond-there times T [] (b ∷ u) s len beyond = absurd (omega (arith, len))
beyond-there times T (x ∷ lives) (b ∷ u) [] len beyond = absurd (nowhere b beyond)
  where
    nowhere : (b : Bool) → GoesBeyond (b ∷ u) [] → ⊥
    nowhere true h = h
    nowhere false h = h
beyond-there times T (x ∷ lives) (false ∷ u) (true ∷ s) len beyond =
    no-times (all_there (after_first times) T (in_set u) lives s)
beyond-there times T (x ∷ lives) (false ∷ u) (false ∷ s) len beyond =
    zero-after (pos 1) _ (beyond-there (after_first times) T lives u s (omega (arith, len)) beyond)
beyond-there times T (x ∷ lives) (true ∷ u) (true ∷ s) len beyond = zero-after
    (pos (x.survivors (times 0))) _ (beyond-there (after_first times) T lives u s (omega (arith, len)) beyond)
beyond-there times T (x ∷ lives) (true ∷ u) (false ∷ s) len beyond =
    zero-after (pos (x.survivors T)) _ (beyond-there (after_first times) T lives u s (omega (arith, len)) beyond)

pub beyond-leaving : (a : ℕ) (causes : ℕ → Bool) (k : ℕ) (times : ℕ → ℕ)
    (T : ℕ) (lives : List PlainLife) (u s : List Bool) → length u ≡ length lives → in_set u a ≡ true → GoesBeyond u s
    → all_there_at_leaving a causes k times T (in_set u) lives s ≡ pos 0
beyond-leaving a causes k times T lives [] s len alive beyond = absurd beyond
beyond-leaving a causes k times T [] (b ∷ u) s len alive beyond = absurd (omega (arith, len))
beyond-leaving a causes k times T (x ∷ lives) (b ∷ u) [] len alive beyond = absurd (nowhere b beyond)
  where
    nowhere : (b : Bool) → GoesBeyond (b ∷ u) [] → ⊥
    nowhere true h = h
    nowhere false h = h
beyond-leaving zero causes k times T (x ∷ lives) (false ∷ u) (c ∷ s) len alive beyond = absurd (cc)
beyond-leaving zero causes k times T (x ∷ lives) (true ∷ u) (true ∷ s) len alive beyond = zero-after
    (pos (leavers_by causes x k)) _ (beyond-there (after_first times) T lives u s (omega (arith, len)) beyond)
beyond-leaving zero causes k times T (x ∷ lives) (true ∷ u) (false ∷ s) len alive beyond =
    no-times (all_there (after_first times) T (in_set u) lives s)
beyond-leaving (suc a) causes k times T (x ∷ lives) (false ∷ u) (true ∷ s) len alive beyond =
    no-times (all_there_at_leaving a causes k (after_first times) T (in_set u) lives s)
beyond-leaving (suc a) causes k times T (x ∷ lives) (false ∷ u) (false ∷ s) len alive beyond =
    zero-after (pos 1) _ (beyond-leaving a causes k (after_first times) T lives u s (omega (arith, len)) alive beyond)
beyond-leaving (suc a) causes k times T (x ∷ lives) (true ∷ u) (true ∷ s) len alive beyond =
    zero-after (pos (x.survivors (times 0))) _
    (beyond-leaving a causes k (after_first times) T lives u s (omega (arith, len)) alive beyond)
beyond-leaving (suc a) causes k times T (x ∷ lives) (true ∷ u) (false ∷ s) len alive beyond =
    zero-after (pos (x.survivors T)) _
    (beyond-leaving a causes k (after_first times) T lives u s (omega (arith, len)) alive beyond)

-- the survivors of a set, as the weight with which its lives are there
pub there-survivors : (t k : ℕ) (lives : List PlainLife) (s : List Bool)
    → length s ≡ length lives → all_there (λ i. t) k (in_set s) lives s ≡ pos (joint_survivors t (in_set s) lives)
there-survivors t k [] s len = refl
there-survivors t k (x ∷ lives) [] len = absurd (omega (arith, len))
there-survivors t k (x ∷ lives) (true ∷ s) len =
    ap (λ z. pos (x.survivors t) *ℤ z) (there-survivors t k lives s (omega (arith, len)))
    ∙ sym (pos_mul (x.survivors t) (joint_survivors t (in_set s) lives))
there-survivors t k (x ∷ lives) (false ∷ s) len = ap (λ z. pos 1 *ℤ z)
    (there-survivors t k lives s (omega (arith, len))) ∙ sym (pos_mul 1 (joint_survivors t (in_set s) lives))

pub LiesIn-length : (u s : List Bool) → LiesIn u s → length s ≡ length u
LiesIn-length [] [] lies = refl
LiesIn-length [] (c ∷ s) lies = absurd lies
LiesIn-length (true ∷ u) [] lies = absurd lies
LiesIn-length (false ∷ u) [] lies = absurd lies
LiesIn-length (true ∷ u) (c ∷ s) lies = ap suc (LiesIn-length u s lies)
LiesIn-length (false ∷ u) (true ∷ s) lies = absurd lies
LiesIn-length (false ∷ u) (false ∷ s) lies = ap suc (LiesIn-length u s lies)

-- a factor of both sides, and one of the second part
both-sides : (c x y : ℤ) (n m : ℕ) → m ≡ 1 * n → x ≡ y *ℤ pos n → c *ℤ x ≡ c *ℤ y *ℤ pos m
both-sides c x y n m q e = let same : m ≡ n = omega (arith, q) in rw (same, e) (sym (mul_assoc c y (pos n)))

second-side : (c n m : ℕ) (x y : ℤ) → m ≡ c * n → x ≡ y *ℤ pos n → pos c *ℤ x ≡ pos 1 *ℤ y *ℤ pos m
second-side c n m x y q e =
    rw (q, e, pos_mul c n) (mul_left_comm (pos c) y (pos n) ∙ ap (λ z. z *ℤ (pos c *ℤ pos n)) (once y))
  where
    once : (z : ℤ) → z ≡ pos 1 *ℤ z
    once z = omega (arith, ints)

none-leave : (x y n : ℤ) → pos 0 *ℤ x ≡ pos 0 *ℤ y *ℤ n
none-leave x y n = no-times x ∙ sym (ap (λ z. z *ℤ n) (no-times y) ∙ no-times n)

module _ (T k : ℕ) where
  -- the lives of a set apart from the others that are alive at T
  pub apart-there : (times : ℕ → ℕ) (lives : List PlainLife) (u s : List Bool) → length u ≡ length lives → LiesIn u s
      → all_there times T (in_set u) lives s
      ≡ all_there times k (in_set s) lives s *ℤ pos (joint_survivors T (outside (in_set u) s) lives)
  apart-there times [] u s len lies = refl
  apart-there times (x ∷ lives) [] s len lies = absurd (omega (arith, len))
  apart-there times (x ∷ lives) (true ∷ u) [] len lies = absurd lies
  apart-there times (x ∷ lives) (false ∷ u) [] len lies = absurd lies
  apart-there times (x ∷ lives) (false ∷ u) (true ∷ s) len lies = absurd lies
  apart-there times (x ∷ lives) (true ∷ u) (true ∷ s) len lies =
      both-sides (pos (x.survivors (times 0))) _ _ (joint_survivors T (outside (in_set u) s) lives) _ refl
      (apart-there (after_first times) lives u s (omega (arith, len)) lies)
  apart-there times (x ∷ lives) (true ∷ u) (false ∷ s) len lies =
      second-side (x.survivors T) (joint_survivors T (outside (in_set u) s) lives) _ _ _ refl
      (apart-there (after_first times) lives u s (omega (arith, len)) lies)
  apart-there times (x ∷ lives) (false ∷ u) (false ∷ s) len lies =
      both-sides (pos 1) _ _ (joint_survivors T (outside (in_set u) s) lives) _ refl
      (apart-there (after_first times) lives u s (omega (arith, len)) lies)

  pub apart-leaving : (a : ℕ) (causes : ℕ → Bool) (year : ℕ) (times : ℕ → ℕ) (lives : List PlainLife) (u s : List Bool)
      → length u ≡ length lives → LiesIn u s
      → all_there_at_leaving a causes year times T (in_set u) lives s ≡ all_there_at_leaving a causes year times k
      (in_set s) lives s *ℤ pos (joint_survivors T (outside (in_set u) s) lives)
  apart-leaving a causes year times [] u s len lies = refl
  apart-leaving a causes year times (x ∷ lives) [] s len lies = absurd (omega (arith, len))
  apart-leaving a causes year times (x ∷ lives) (true ∷ u) [] len lies = absurd lies
  apart-leaving a causes year times (x ∷ lives) (false ∷ u) [] len lies = absurd lies
  apart-leaving a causes year times (x ∷ lives) (false ∷ u) (true ∷ s) len lies = absurd lies
  apart-leaving zero causes year times (x ∷ lives) (true ∷ u) (true ∷ s) len lies =
      both-sides (pos (leavers_by causes x year)) _ _ (joint_survivors T (outside (in_set u) s) lives) _ refl
      (apart-there (after_first times) lives u s (omega (arith, len)) lies)
  apart-leaving zero causes year times (x ∷ lives) (true ∷ u) (false ∷ s) len lies = none-leave
      (all_there (after_first times) T (in_set u) lives s) (all_there (after_first times) k (in_set s) lives s)
      (pos (joint_survivors T (outside (in_set (true ∷ u)) (false ∷ s)) (x ∷ lives)))
  apart-leaving zero causes year times (x ∷ lives) (false ∷ u) (false ∷ s) len lies = none-leave
      (all_there (after_first times) T (in_set u) lives s) (all_there (after_first times) k (in_set s) lives s)
      (pos (joint_survivors T (outside (in_set (false ∷ u)) (false ∷ s)) (x ∷ lives)))
  apart-leaving (suc a) causes year times (x ∷ lives) (true ∷ u) (true ∷ s) len lies =
      both-sides (pos (x.survivors (times 0))) _ _ (joint_survivors T (outside (in_set u) s) lives) _ refl
      (apart-leaving a causes year (after_first times) lives u s (omega (arith, len)) lies)
  apart-leaving (suc a) causes year times (x ∷ lives) (true ∷ u) (false ∷ s) len lies =
      second-side (x.survivors T) (joint_survivors T (outside (in_set u) s) lives) _ _ _ refl
      (apart-leaving a causes year (after_first times) lives u s (omega (arith, len)) lies)
  apart-leaving (suc a) causes year times (x ∷ lives) (false ∷ u) (false ∷ s) len lies =
      both-sides (pos 1) _ _ (joint_survivors T (outside (in_set u) s) lives) _ refl
      (apart-leaving a causes year (after_first times) lives u s (omega (arith, len)) lies)

-- nothing falls on the leaving of a life that is not alive at the start
pub absent-leaving : (a : ℕ) (causes : ℕ → Bool) (k : ℕ) (times : ℕ → ℕ) (T : ℕ) (S : ℕ → Bool) (lives : List PlainLife)
    (u s : List Bool) → length u ≡ length lives → a < length lives → in_set u a ≡ false → LiesIn u s
    → all_there_at_leaving a causes k times T S lives s ≡ pos 0
absent-leaving a causes k times T S [] u s len within absent lies = absurd (omega (arith, within))
absent-leaving a causes k times T S (x ∷ lives) [] s len within absent lies = absurd (omega (arith, len))
absent-leaving a causes k times T S (x ∷ lives) (true ∷ u) [] len within absent lies = absurd lies
absent-leaving a causes k times T S (x ∷ lives) (false ∷ u) [] len within absent lies = absurd lies
absent-leaving a causes k times T S (x ∷ lives) (false ∷ u) (true ∷ s) len within absent lies = absurd lies
absent-leaving zero causes k times T S (x ∷ lives) (true ∷ u) (c ∷ s) len within absent lies = absurd (cc)
absent-leaving zero causes k times T S (x ∷ lives) (false ∷ u) (false ∷ s) len within absent lies =
    no-times (all_there (after_first times) T (after_first S) lives s)
absent-leaving (suc a) causes k times T S (x ∷ lives) (true ∷ u) (true ∷ s) len within absent lies =
    zero-after (survivors_if (S 0) x (times 0)) _ (absent-leaving a causes k
    (after_first times) T (after_first S) lives u s (omega (arith, len)) (omega (arith, within)) absent lies)
absent-leaving (suc a) causes k times T S (x ∷ lives) (true ∷ u) (false ∷ s) len within absent lies =
    zero-after (whole_if (S 0) x T) _ (absent-leaving a causes k
    (after_first times) T (after_first S) lives u s (omega (arith, len)) (omega (arith, within)) absent lies)
absent-leaving (suc a) causes k times T S (x ∷ lives) (false ∷ u) (false ∷ s) len within absent lies =
    zero-after (whole_if (S 0) x T) _ (absent-leaving a causes k
    (after_first times) T (after_first S) lives u s (omega (arith, len)) (omega (arith, within)) absent lies)
