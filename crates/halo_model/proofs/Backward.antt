-- An annuity, set by set over the years backward.
use Rattle.std.proofs.Common.{◌≡◌, ◌≢◌, ℕ, zero, suc, ◌+◌, ◌*◌, ◌-◌, ◌<◌, ◌≤◌, arith, refl, ap, sym, ◌∙◌, List, [], ◌∷◌, length, Bool, true, false, not, cond, ◌&&◌, None, ℤ, pos, negsuc, ◌+ℤ◌, ◌*ℤ◌, ◌-ℤ◌}
use Rattle.std.proofs.lemmas.Bool.Decides.{nat_tests}
use Rattle.std.proofs.lemmas.Int.{ints}
use Rattle.halo_sums.specs.Sums.{int_sum_over, numbers_from, sum_over}
use Rattle.halo_sums.specs.Sets.{in_set, sets}
use Rattle.std.proofs.Math.IntN.{*ℤ-zero}
use Rattle.halo_sums.proofs.Integers.{mul_neg, neg_mul, sub_mul}
use Rattle.halo_sums.proofs.IntSums.{int_sum_over-append, int_sum_over-ext, int_sum_over-none, int_sum_over-pos, int_sum_over-scale, int_sum_over-scale_right, int_sum_over-sub, int_sum_over-swap}
use Rattle.halo_sums.proofs.Numbers.{int_sum_over-numbers_ext, numbers_from-split}
use Rattle.halo_sums.proofs.Sets.{int_sum_over-sets}
use Rattle.halo_status.specs.Pay.{PlainPay}
use Rattle.halo_status.specs.declared.pay.Kind.{Kind}
use Rattle.halo_status.specs.declared.pay.Kind.TheVariants.{Insurance, Due, Immediate}
use Rattle.halo_model.specs.Life.{AreLives, PlainLife, after_first}
use Rattle.halo_model.specs.Outcome.{joint_survivors}
use Rattle.halo_model.specs.Basis.{Basis, accumulated, discounted, taken}
use Rattle.halo_model.specs.Payment.{payment}
use Rattle.halo_model.specs.Coefficient.{form}
use Rattle.halo_model.specs.Expectation.{all_there}
use Rattle.halo_model.specs.Part.{due_part, existing_weight, immediate_part}
use Rattle.halo_model.specs.Value.{numerator}
use Rattle.halo_model.specs.Backward.{AnnuityBySets, above_zero, backward, below_zero, gain, lies_in, loss, may_pay, outside, set_part, years_passed}
use Rattle.halo_model.proofs.Annuities.{due-by-parts, immediate-by-parts}

-- equal at each set of n numbers, equal in sum
pub sets-ext : (n : ℕ) (f g : List Bool → ℤ)
    → ((s : List Bool) → length s ≡ n → f s ≡ g s) → int_sum_over (sets n) f ≡ int_sum_over (sets n) g
sets-ext zero f g h = ap (λ z. z +ℤ pos 0) (h [] refl)
sets-ext (suc n) f g h = int_sum_over-sets n f
    ∙ ap (λ z. z +ℤ int_sum_over (sets n) (λ s. f (true ∷ s)))
    (sets-ext n (λ s. f (false ∷ s)) (λ s. g (false ∷ s)) (λ s e. h (false ∷ s) (ap suc e)))
    ∙ ap (λ z. int_sum_over (sets n) (λ s. g (false ∷ s)) +ℤ z)
    (sets-ext n (λ s. f (true ∷ s)) (λ s. g (true ∷ s)) (λ s e. h (true ∷ s) (ap suc e)))
    ∙ sym (int_sum_over-sets n g)

-- one life more of the set, and one that is not of it
with-life : (alive within : Bool) (l a o : ℕ) (rest : ℤ) → rest ≡ cond within (pos (a * o)) (pos 0)
    → cond alive (pos l) (pos 0) *ℤ rest ≡ cond (alive && within) (pos (l * a * (1 * o))) (pos 0)
with-life false within l a o rest e = omega (arith, ints)
with-life true false l a o rest e = rw e (omega (arith, ints))
with-life true true l a o rest e = rw e (ap pos (omega arith))

other-life : (alive within : Bool) (l a o : ℕ) (rest : ℤ) → rest ≡ cond within (pos (a * o)) (pos 0)
    → cond alive (pos l) (pos 1) *ℤ rest ≡ cond within (pos (1 * a * (cond (alive && true) l 1 * o))) (pos 0)
other-life false false l a o rest e = rw e (omega (arith, ints))
other-life true false l a o rest e = rw e (omega (arith, ints))
other-life false true l a o rest e = rw e (ap pos (omega arith))
other-life true true l a o rest e = rw e (ap pos (omega arith))

not-of-it : (alive : Bool) → (alive && not true) ≡ false
not-of-it true = refl
not-of-it false = refl

-- the weight with which at least the lives of a set are there: those of the set at t, the others of U at T, and none of
-- the set is missing in U
pub all-there : (t T : ℕ) (U : ℕ → Bool) (lives : List PlainLife) (s : List Bool) → length s ≡ length lives
    → all_there (λ i. t) T U lives s
    ≡ cond (lies_in s U) (pos (joint_survivors t (in_set s) lives * joint_survivors T (outside U s) lives)) (pos 0)
all-there t T U [] [] e = refl
all-there t T U [] (b ∷ s) e = absurd (omega arith)
all-there t T U (x ∷ lives) [] e = absurd (omega arith)
all-there t T U (x ∷ lives) (true ∷ s) e =
    with-life (U 0) (lies_in s (after_first U)) (x.survivors t) (joint_survivors t (in_set s) lives)
    (joint_survivors T (outside (after_first U) s) lives) _ (all-there t T (after_first U) lives s (omega arith))
    ∙ ap (λ b. cond (U 0 && lies_in s (after_first U)) (pos (x.survivors t * joint_survivors t
    (in_set s) lives * (cond b (x.survivors T) 1 * joint_survivors T (outside (after_first U) s) lives))) (pos 0))
    (sym (not-of-it (U 0)))
all-there t T U (x ∷ lives) (false ∷ s) e =
    other-life (U 0) (lies_in s (after_first U)) (x.survivors T) (joint_survivors t (in_set s) lives)
    (joint_survivors T (outside (after_first U) s) lives) _ (all-there t T (after_first U) lives s (omega arith))

-- the survivors with one life more of the set, and with one that is not of it
split-with : (alive within : Bool) (l a o rest : ℕ) → (within ≡ true → rest ≡ a * o)
    → (alive && within) ≡ true → cond alive l 1 * rest ≡ l * a * (cond (alive && not true) l 1 * o)
split-with true true l a o rest e h = rw (e refl) (omega arith)
split-with true false l a o rest e h = absurd (cc)
split-with false within l a o rest e h = absurd (cc)

split-other : (alive : Bool) (l a o rest : ℕ)
    → rest ≡ a * o → cond alive l 1 * rest ≡ 1 * a * (cond (alive && not false) l 1 * o)
split-other true l a o rest e = rw e (omega arith)
split-other false l a o rest e = rw e (omega arith)

-- the survivors of U are those of a set in it times those of the others
pub survivors-split : (T : ℕ) (U : ℕ → Bool) (lives : List PlainLife) (s : List Bool)
    → length s ≡ length lives → lies_in s U ≡ true
    → joint_survivors T U lives ≡ joint_survivors T (in_set s) lives * joint_survivors T (outside U s) lives
survivors-split T U [] [] e h = refl
survivors-split T U [] (b ∷ s) e h = absurd (omega arith)
survivors-split T U (x ∷ lives) [] e h = absurd (omega arith)
survivors-split T U (x ∷ lives) (true ∷ s) e h =
    split-with (U 0) (lies_in s (after_first U))
    (x.survivors T) (joint_survivors T (in_set s) lives) (joint_survivors T (outside (after_first U) s) lives) _
    (λ k. survivors-split T (after_first U) lives s (omega arith) k) h
survivors-split T U (x ∷ lives) (false ∷ s) e h =
    split-other (U 0)
    (x.survivors T) (joint_survivors T (in_set s) lives) (joint_survivors T (outside (after_first U) s) lives) _
    (survivors-split T (after_first U) lives s (omega arith) h)

-- sums of multiples, at each of the numbers
sum_over-numbers_scale : (count first c : ℕ) (f g : ℕ → ℕ) → ((i : ℕ) → first ≤ i → f i ≡ c * g i)
    → sum_over (numbers_from first count) f ≡ c * sum_over (numbers_from first count) g
sum_over-numbers_scale zero first c f g h = omega arith
sum_over-numbers_scale (suc count) first c f g h =
    omega (arith, h first (omega arith), sum_over-numbers_scale count (suc first) c f g (λ i from. h i (omega arith)))

module _ (b : Basis) where
  -- what is paid now is not discounted, and what is paid later is discounted by a year more
  pub discounted-now : (t : ℕ) → discounted b t t ≡ accumulated b t
  discounted-now t = let e : t - t ≡ 0 = omega arith in rw e (omega arith)

  pub discounted-later : (t u : ℕ) → t < u → discounted b t u ≡ b.q t * discounted b (suc t) u
  discounted-later t u later = let e : u - t ≡ suc (u - suc t) = omega arith in rw e (omega arith)

  -- the recursion is the sum of what is paid, discounted, times the survivors at its time
  pub backward-sums : (s : List Bool) (paid : ℕ → ℕ) (years t : ℕ)
      → backward b s paid t years
      ≡ sum_over (numbers_from t years) (λ u. paid u * (joint_survivors u (in_set s) b.lives * discounted b t u))
  backward-sums s paid zero t = refl
  backward-sums s paid (suc years) t =
      let now = ap (λ (n : ℕ). paid t * (joint_survivors t (in_set s) b.lives * n)) (discounted-now t) in
      let later = sum_over-numbers_scale years
      (suc t) (b.q t) (λ u. paid u * (joint_survivors u (in_set s) b.lives * discounted b t u))
      (λ u. paid u * (joint_survivors u (in_set s) b.lives * discounted b (suc t) u))
      (λ u from. ap (λ (n : ℕ). paid u * (joint_survivors u (in_set s) b.lives * n)) (discounted-later t u from)
      ∙ out (paid u) (joint_survivors u (in_set s) b.lives) (b.q t) (discounted b (suc t) u)) in
      let rest = ap (λ (n : ℕ). b.q t * n) (backward-sums s paid years (suc t)) in
      omega (arith, now, later, rest)
    where
      out : (p j q d : ℕ) → p * (j * (q * d)) ≡ q * (p * (j * d))
      out p j q d = omega arith

-- what is paid at one time, by whether it may be and by the sign of the coefficient
apart : (may : Bool) (p d j o : ℕ) (c : ℤ)
    → cond may (pos (p * d) *ℤ (c *ℤ pos (j * o))) (pos 0)
    ≡ pos (cond may p 0 * above_zero c * (j * d) * o) -ℤ pos (cond may p 0 * below_zero c * (j * d) * o)
apart false p d j o c =
    let z : (a : ℕ) → 0 * a * (j * d) * o ≡ 0 = λ a. omega arith in
    rw (z (above_zero c), z (below_zero c)) (omega (arith, ints))
apart true p d j o (pos n) =
    let e : p * d * (n * (j * o)) ≡ p * n * (j * d) * o = omega arith in
    let z : p * 0 * (j * d) * o ≡ 0 = omega arith in
    rw (z, e) (omega (arith, ints))
apart true p d j o (negsuc n) =
    let e : p * d * (suc n * (j * o)) ≡ p * suc n * (j * d) * o = omega arith in
    let z : p * 0 * (j * d) * o ≡ 0 = omega arith in
    ap (λ z. pos (p * d) *ℤ z) (neg_mul (pos (suc n)) (pos (j * o)))
    ∙ mul_neg (pos (p * d)) (pos (suc n * (j * o))) ∙ rw (z, e) (omega (arith, ints))

piece : (may : Bool) (p d j o : ℕ) (c : ℤ)
    → cond may (pos (p * d) *ℤ (c *ℤ pos (j * o))) (pos 0)
    ≡ (pos (cond may p 0 * above_zero c * (j * d)) -ℤ pos (cond may p 0 * below_zero c * (j * d))) *ℤ pos o
piece may p d j o c = apart may p d j o c
    ∙ sym (sub_mul (pos (cond may p 0 * above_zero c * (j * d))) (pos (cond may p 0 * below_zero c * (j * d))) (pos o))

nothing : (may : Bool) (a c : ℤ) → cond may (a *ℤ (c *ℤ pos 0)) (pos 0) ≡ pos 0
nothing false a c = refl
nothing true a c = ap (λ z. a *ℤ z) (*ℤ-zero c) ∙ *ℤ-zero a

cond-scale : (may : Bool) (a c : ℤ) → cond may (a *ℤ c) (pos 0) ≡ cond may a (pos 0) *ℤ c
cond-scale false a c = omega (arith, ints)
cond-scale true a c = refl

pub may-not-before : (kind : Kind) (defer T t : ℕ) → t < T → may_pay kind defer T t ≡ false
may-not-before Insurance defer T t h = refl
may-not-before Due defer T t h = grind (arith, nat_tests)
may-not-before Immediate defer T t h = grind (arith, nat_tests)

never-at-first : (defer T : ℕ) → may_pay Immediate defer T 0 ≡ false
never-at-first defer T = grind (arith, nat_tests)

module _ (b : Basis) (pay : PlainPay) (T : ℕ) (U : ℕ → Bool) where
  -- what a pay pays at time t adds, and what the coefficient of a set does
  abbrev pub time_part : ℕ → ℤ
  time_part t = cond (may_pay pay.kind pay.defer T t)
      (pos (payment pay (years_passed pay.kind pay.defer t) * discounted b T t) *ℤ existing_weight b pay T U t) (pos 0)

  abbrev cell : ℕ → List Bool → ℤ
  cell t s =
      cond (may_pay pay.kind pay.defer T t) (pos (payment pay (years_passed pay.kind pay.defer t) * discounted b T t)
      *ℤ (form pay t s *ℤ all_there (λ i. t) T U b.lives s)) (pos 0)

  time-part-is : (t : ℕ) → time_part t ≡ int_sum_over (sets (length b.lives)) (cell t)
  time-part-is t =
      cond-scale may paid (existing_weight b pay T U t)
      ∙ sym (int_sum_over-scale
      (sets (length b.lives)) (cond may paid (pos 0)) (λ s. form pay t s *ℤ all_there (λ i. t) T U b.lives s))
      ∙ int_sum_over-ext (sets (length b.lives)) _ _
      (λ s. sym (cond-scale may paid (form pay t s *ℤ all_there (λ i. t) T U b.lives s)))
    where
      may : Bool
      may = may_pay pay.kind pay.defer T t

      paid : ℤ
      paid = pos (payment pay (years_passed pay.kind pay.defer t) * discounted b T t)

  -- a set that lies in U, over the times from T on
  cell-within : (s : List Bool) → length s ≡ length b.lives → lies_in s U ≡ true → (t : ℕ)
      → cell t s ≡ (pos (gain pay T s t * (joint_survivors t (in_set s) b.lives * discounted b T t))
      -ℤ pos (loss pay T s t * (joint_survivors t (in_set s) b.lives * discounted b T t)))
      *ℤ pos (joint_survivors T (outside U s) b.lives)
  cell-within s long within t =
      ap (λ w. cond may (pos (payment pay passed * discounted b T t) *ℤ (form pay t s *ℤ w)) (pos 0))
      (all-there t T U b.lives s long ∙ ap (λ h. cond h
      (pos (joint_survivors t (in_set s) b.lives * joint_survivors T (outside U s) b.lives)) (pos 0)) within)
      ∙ piece may (payment pay passed) (discounted b T t)
      (joint_survivors t (in_set s) b.lives) (joint_survivors T (outside U s) b.lives) (form pay t s)
    where
      may : Bool
      may = may_pay pay.kind pay.defer T t

      passed : ℕ
      passed = years_passed pay.kind pay.defer t

  cell-outside : (s : List Bool) → length s ≡ length b.lives → lies_in s U ≡ false → (t : ℕ) → cell t s ≡ pos 0
  cell-outside s long apart t =
      ap (λ w. cond (may_pay pay.kind pay.defer T t)
      (pos (payment pay (years_passed pay.kind pay.defer t) * discounted b T t) *ℤ (form pay t s *ℤ w)) (pos 0))
      (all-there t T U b.lives s long ∙ ap (λ h. cond h
      (pos (joint_survivors t (in_set s) b.lives * joint_survivors T (outside U s) b.lives)) (pos 0)) apart)
      ∙ nothing (may_pay pay.kind pay.defer T t)
      (pos (payment pay (years_passed pay.kind pay.defer t) * discounted b T t)) (form pay t s)

  cell-before : (s : List Bool) (t : ℕ) → t < T → cell t s ≡ pos 0
  cell-before s t h = ap (λ may. cond may (pos (payment pay (years_passed pay.kind pay.defer t) * discounted b T t)
      *ℤ (form pay t s *ℤ all_there (λ i. t) T U b.lives s)) (pos 0)) (may-not-before pay.kind pay.defer T t h)

  -- over all times: only those from T on count
  cells-from : (s : List Bool) (last : ℕ) → T ≤ last → int_sum_over (numbers_from 0 (suc last)) (λ t. cell t s)
      ≡ int_sum_over (numbers_from T (suc last - T)) (λ t. cell t s)
  cells-from s last started =
      let e : suc last ≡ T + (suc last - T) = omega arith in
      ap (λ n. int_sum_over (numbers_from 0 n) (λ t. cell t s)) e
      ∙ ap (λ ts. int_sum_over ts (λ t. cell t s)) (numbers_from-split T (suc last - T))
      ∙ int_sum_over-append (numbers_from 0 T) (numbers_from T (suc last - T)) (λ t. cell t s)
      ∙ ap (λ z. z +ℤ int_sum_over (numbers_from T (suc last - T)) (λ t. cell t s))
      (int_sum_over-numbers_ext T 0 (λ t. cell t s) (λ t. pos 0) (λ t from below. cell-before s t (omega arith))
      ∙ int_sum_over-none (numbers_from 0 T))
      ∙ omega (arith, ints)

  -- a set's cells are its part
  set-part-is : (years : ℕ) (s : List Bool)
      → length s ≡ length b.lives → int_sum_over (numbers_from T years) (λ t. cell t s) ≡ set_part b pay T U years s
  set-part-is years s long = by-case (lies_in s U) refl
    where
      weigh : (ℕ → ℕ) → ℕ → ℕ
      weigh paid t = paid t * (joint_survivors t (in_set s) b.lives * discounted b T t)

      by-case : (h : Bool) → lies_in s U ≡ h → int_sum_over (numbers_from T years) (λ t. cell t s)
          ≡ cond h ((pos (backward b s (gain pay T s) T years) -ℤ pos (backward b s (loss pay T s) T years))
          *ℤ pos (joint_survivors T (outside U s) b.lives)) (pos 0)
      by-case false e = int_sum_over-ext (numbers_from T years) _ _ (cell-outside s long e)
          ∙ int_sum_over-none (numbers_from T years)
      by-case true e =
          int_sum_over-ext (numbers_from T years) _ _ (cell-within s long e)
          ∙ int_sum_over-scale_right (numbers_from T years) (pos (joint_survivors T (outside U s) b.lives))
          (λ t. pos (weigh (gain pay T s) t) -ℤ pos (weigh (loss pay T s) t))
          ∙ ap (λ z. z *ℤ pos (joint_survivors T (outside U s) b.lives))
          (int_sum_over-sub
          (numbers_from T years) (λ t. pos (weigh (gain pay T s) t)) (λ t. pos (weigh (loss pay T s) t))
          ∙ ap (λ z. z -ℤ int_sum_over (numbers_from T years) (λ t. pos (weigh (loss pay T s) t))) (int_sum_over-pos
          (numbers_from T years) (weigh (gain pay T s)) ∙ ap pos (sym (backward-sums b s (gain pay T s) years T)))
          ∙ ap (λ z. pos (backward b s (gain pay T s) T years) -ℤ z) (int_sum_over-pos
          (numbers_from T years) (weigh (loss pay T s)) ∙ ap pos (sym (backward-sums b s (loss pay T s) years T))))

  -- the sum over the times is the sum over the sets
  pub times-are-sets : (last : ℕ) → T ≤ last → int_sum_over (numbers_from 0 (suc last)) time_part
      ≡ int_sum_over (sets (length b.lives)) (set_part b pay T U (suc last - T))
  times-are-sets last started =
      int_sum_over-ext (numbers_from 0 (suc last)) _ _ time-part-is
      ∙ int_sum_over-swap (numbers_from 0 (suc last)) (sets (length b.lives)) cell
      ∙ sets-ext (length b.lives) _ _ (λ s long. cells-from s last started ∙ set-part-is (suc last - T) s long)

with-first : (first rest : ℤ) → first ≡ pos 0 → rest ≡ first +ℤ rest
with-first first rest e = omega (arith, ints, e)

-- the value of an annuity, over all times from 0 on
pub annuity-by-times : (b : Basis)
    → AreLives b.lives → (pay : PlainPay) → pay.kind ≢ Insurance → pay.mark ≡ None → (T : ℕ) (U : ℕ → Bool)
    → pos (numerator b pay T U)
    ≡ pos (length (taken b)) *ℤ int_sum_over (numbers_from 0 (suc b.last_time)) (time_part b pay T U)
annuity-by-times b rule pay annual plain T U = by-kind pay.kind refl
  where
    by-kind : (kind : Kind) → pay.kind ≡ kind → pos (numerator b pay T U)
        ≡ pos (length (taken b)) *ℤ int_sum_over (numbers_from 0 (suc b.last_time)) (time_part b pay T U)
    by-kind Insurance e = absurd (annual e)
    by-kind Due e = due-by-parts b rule pay e plain T U
        ∙ ap (λ z. pos (length (taken b)) *ℤ z)
        (int_sum_over-ext (numbers_from 0 (suc b.last_time)) (due_part b pay T U) (time_part b pay T U)
        (λ t. sym (ap (λ k. cond (may_pay k pay.defer T t) (pos
        (payment pay (years_passed k pay.defer t) * discounted b T t) *ℤ existing_weight b pay T U t) (pos 0)) e)))
    by-kind Immediate e = immediate-by-parts b rule pay e plain T U
        ∙ ap (λ z. pos (length (taken b)) *ℤ z)
        (int_sum_over-ext (numbers_from 1 b.last_time) (immediate_part b pay T U) (time_part b pay T U)
        (λ t. sym (ap (λ k. cond (may_pay k pay.defer T t) (pos
        (payment pay (years_passed k pay.defer t) * discounted b T t) *ℤ existing_weight b pay T U t) (pos 0)) e))
        ∙ with-first (time_part b pay T U 0) (int_sum_over (numbers_from 1 b.last_time) (time_part b pay T U))
        (ap (λ may. cond may (pos (payment pay (years_passed pay.kind pay.defer 0) * discounted b T 0) *ℤ
        existing_weight b pay T U 0) (pos 0)) (ap (λ k. may_pay k pay.defer T 0) e ∙ never-at-first pay.defer T)))

pub annuity-by-sets : AnnuityBySets
annuity-by-sets b rule pay annual plain T started U =
    annuity-by-times b rule pay annual plain T U
    ∙ ap (λ z. pos (length (taken b)) *ℤ z) (times-are-sets b pay T U b.last_time started)
