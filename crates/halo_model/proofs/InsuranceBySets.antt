-- The value of an insurance, and of each event, by the sets of the lives alive: the years one after another.
use Rattle.std.proofs.Common.{◌≡◌, ℕ, zero, suc, ◌+◌, ◌*◌, ◌-◌, ◌<◌, ◌≤◌, arith, refl, ap, sym, ◌∙◌, List, [], ◌∷◌, length, filter, Bool, true, false, cond, ◌&&◌, nat_eq, nat_le, ℤ, pos, ◌+ℤ◌, ◌*ℤ◌, ⊎_elim}
use Rattle.std.proofs.lemmas.Bool.{cases_lt}
use Rattle.std.proofs.lemmas.Bool.Decides.{nat_tests}
use Rattle.std.proofs.lemmas.Int.{ints}
use Rattle.halo_sums.specs.Sums.{indicator, int_sum_over, numbers_from}
use Rattle.halo_sums.specs.Sets.{in_set, subsets}
use Rattle.halo_sums.proofs.Integers.{mul_add, mul_assoc, mul_left_comm, pos_mul, add_mul}
use Rattle.halo_sums.proofs.IntSums.{int_sum_over-add, int_sum_over-append, int_sum_over-ext, int_sum_over-none, int_sum_over-scale, int_sum_over-scale_right, int_sum_over-swap}
use Rattle.halo_sums.proofs.Numbers.{int_sum_over-numbers_ext, int_sum_over-pick, numbers_from-split}
use Rattle.halo_status.specs.Naming.{names_term}
use Rattle.halo_status.specs.Pay.{PlainPay}
use Rattle.halo_model.specs.Life.{AreLives}
use Rattle.halo_model.specs.Order.{rank_in}
use Rattle.halo_model.specs.Event.{ends}
use Rattle.halo_model.specs.Basis.{Basis, accumulated, discounted, taken}
use Rattle.halo_model.specs.Payment.{by_cause, payment}
use Rattle.halo_model.specs.Coefficient.{form}
use Rattle.halo_model.specs.Chance.{IsValidInsurance}
use Rattle.halo_model.specs.Part.{end_part, leaving_part, paid_for_year, terms_of}
use Rattle.halo_model.specs.SetValue.{SomeEvents, all_events, due_for_year, end_of_term, ending_weight, failing_part, holds_of, leaving_of, leaving_weight, set_value, value_over}
use Rattle.halo_model.specs.SetLaws.{EndBySets, InsuranceBySets, LeavingBySets}
use Rattle.halo_model.proofs.Insurances.{insurance-by-parts}
use Rattle.halo_model.proofs.NoFall.{no-chance-on-end, part-unnamed}
use Rattle.halo_model.proofs.YearBySets.{chance, end_chance, ends-of-year, leavings-of-year, lost, others}

-- a sum over the numbers from 0 on of what counts from T on
from-start : (T n : ℕ) (g : ℕ → ℤ)
    → int_sum_over (numbers_from 0 n) (λ k. cond (nat_le T k) (g k) (pos 0)) ≡ int_sum_over (numbers_from T (n - T)) g
from-start T n g = ⊎_elim early late (cases_lt n T)
  where
    counted : ℕ → ℤ
    counted k = cond (nat_le T k) (g k) (pos 0)

    before : (k : ℕ) → k < T → counted k ≡ pos 0
    before k h = let e : nat_le T k ≡ false = grind (arith, nat_tests) in rw e refl

    after : (k : ℕ) → T ≤ k → counted k ≡ g k
    after k h = let e : nat_le T k ≡ true = grind (arith, nat_tests) in rw e refl

    none-before : (m : ℕ) → m ≤ T → int_sum_over (numbers_from 0 m) counted ≡ pos 0
    none-before m h = int_sum_over-numbers_ext m 0 counted (λ k. pos 0) (λ k low high. before k (omega arith))
        ∙ int_sum_over-none (numbers_from 0 m)

    early : n < T → int_sum_over (numbers_from 0 n) counted ≡ int_sum_over (numbers_from T (n - T)) g
    early h = let e : n - T ≡ 0 = omega arith in rw e (none-before n (omega arith))

    nothing-more : (z : ℤ) → pos 0 +ℤ z ≡ z
    nothing-more z = omega (arith, ints)

    late : T ≤ n → int_sum_over (numbers_from 0 n) counted ≡ int_sum_over (numbers_from T (n - T)) g
    late h = let e : n ≡ T + (n - T) = omega arith in
        ap (λ m. int_sum_over (numbers_from 0 m) counted) e
        ∙ ap (λ ns. int_sum_over ns counted) (numbers_from-split T (n - T))
        ∙ int_sum_over-append (numbers_from 0 T) (numbers_from T (n - T)) counted
        ∙ ap (λ z. z +ℤ int_sum_over (numbers_from T (n - T)) counted) (none-before T (omega arith))
        ∙ nothing-more (int_sum_over (numbers_from T (n - T)) counted)
        ∙ int_sum_over-numbers_ext (n - T) T counted g (λ k low high. after k low)

module _ (b : Basis) where
  -- a year back, the discount of that year comes in front
  discounted-back : (T k : ℕ) → T < k → discounted b T k ≡ b.q T * discounted b (suc T) k
  discounted-back T k h = let e : k - T ≡ suc (k - suc T) = omega arith in rw e (omega arith)

  discounted-once : (T : ℕ) → discounted b T (suc T) ≡ b.q T * accumulated b (suc T)
  discounted-once T = let e : suc T - T ≡ 1 = omega arith in rw e (omega arith)

  -- the recursion sums what is due, each discounted from the end of its year
  pub value-over-is : (due : ℕ → ℤ) (years T : ℕ)
      → value_over b due T years ≡ int_sum_over (numbers_from T years) (λ k. pos (discounted b T (suc k)) *ℤ due k)
  value-over-is due zero T = refl
  value-over-is due (suc years) T = rw (value-over-is due years (suc T), discounted-once T)
      (mul_add (pos (b.q T)) (due T *ℤ pos (accumulated b (suc T)))
      (int_sum_over (numbers_from (suc T) years) (λ k. pos (discounted b (suc T) (suc k)) *ℤ due k))
      ∙ ap (λ z. z +ℤ pos (b.q T) *ℤ int_sum_over (numbers_from (suc T) years)
      (λ k. pos (discounted b (suc T) (suc k)) *ℤ due k)) (now (b.q T) (accumulated b (suc T)) (due T))
      ∙ ap (λ z. pos (b.q T * accumulated b (suc T)) *ℤ due T +ℤ z) (sym (int_sum_over-scale
      (numbers_from (suc T) years) (pos (b.q T)) (λ k. pos (discounted b (suc T) (suc k)) *ℤ due k))
      ∙ int_sum_over-numbers_ext years (suc T) _ _ (λ k low high. later k low)))
    where
      now : (q a : ℕ) (z : ℤ) → pos q *ℤ (z *ℤ pos a) ≡ pos (q * a) *ℤ z
      now q a z = rw (pos_mul q a) (sym (mul_assoc (pos q) z (pos a)) ∙ swap (pos q) z (pos a))
        where
          swap : (x y z : ℤ) → x *ℤ y *ℤ z ≡ x *ℤ z *ℤ y
          swap x y z = mul_assoc x y z ∙ ap (λ w. x *ℤ w) (omega (arith, ints)) ∙ sym (mul_assoc x z y)

      later : (k : ℕ) → suc T ≤ k
          → pos (b.q T) *ℤ (pos (discounted b (suc T) (suc k)) *ℤ due k) ≡ pos (discounted b T (suc k)) *ℤ due k
      later k h = rw (discounted-back T (suc k) (omega arith), pos_mul (b.q T) (discounted b (suc T) (suc k)))
          (sym (mul_assoc (pos (b.q T)) (pos (discounted b (suc T) (suc k))) (due k)))

module _ (b : Basis) (rule : AreLives b.lives) (pay : PlainPay) (is : IsValidInsurance pay)
    (rank : ℕ → ℕ) (T : ℕ) (alive : List Bool) (len : length alive ≡ length b.lives) (events : SomeEvents) where
  abbrev paid : ℕ → ℤ
  paid k = pos (paid_for_year b pay T k)

  abbrev rest : List Bool → ℤ
  rest s = others pay is T b.lives rule alive len s

  abbrev chance_of : ℕ → ℕ → ℤ
  chance_of k a = chance pay is T b.lives rule alive len rank k a

  abbrev end_of : ℕ → ℤ
  end_of k = end_chance pay is T b.lives rule alive len rank k

  abbrev due : ℕ → List Bool → ℤ
  due k s = due_for_year pay events rank b.lives k s

  -- the leavings and the term's end of year k together
  year : (k : ℕ) → paid k *ℤ int_sum_over (numbers_from 0 (length b.lives))
      (λ a. cond (events.lives a) (chance_of k a) (pos 0)) +ℤ paid k *ℤ cond (events.terms (suc k)) (end_of k) (pos 0)
      ≡ cond
      (nat_le T k) (int_sum_over (subsets alive) (λ s. pos (discounted b T (suc k)) *ℤ due k s *ℤ rest s)) (pos 0)
  year k = rw (
    leavings-of-year pay is T b.lives rule alive len rank k events,
    ends-of-year pay is T b.lives rule alive len rank k events,
  ) (each (nat_le pay.defer k) (nat_le T k))
    where
      P : ℕ
      P = payment pay (k - pay.defer)

      D : ℕ
      D = discounted b T (suc k)

      L : List Bool → ℤ
      L s = leaving_weight pay events rank b.lives k s

      E : List Bool → ℤ
      E s = ending_weight pay events b.lives k s

      c : List Bool → ℤ
      c s = form pay k s

      d : List Bool → ℤ
      d s = lost pay is T b.lives rule alive len rank k s

      joined : (g l e w r : ℤ) → g *ℤ (l *ℤ r) +ℤ e *ℤ (w *ℤ r) ≡ (g *ℤ l +ℤ e *ℤ w) *ℤ r
      joined g l e w r = ap (λ z. z +ℤ e *ℤ (w *ℤ r)) (sym (mul_assoc g l r))
          ∙ ap (λ z. g *ℤ l *ℤ r +ℤ z) (sym (mul_assoc e w r)) ∙ sym (add_mul (g *ℤ l) (e *ℤ w) r)

      moved : (p u : ℕ) (x r : ℤ) → pos (p * u) *ℤ (x *ℤ r) ≡ pos u *ℤ (pos p *ℤ x) *ℤ r
      moved p u x r = rw (pos_mul p u) (sym (mul_assoc (pos p *ℤ pos u) x r)
          ∙ ap (λ z. z *ℤ r) (mul_assoc (pos p) (pos u) x ∙ mul_left_comm (pos p) (pos u) x))

      nothing : (x : ℤ) → x *ℤ pos 0 +ℤ x *ℤ pos 0 ≡ pos 0
      nothing x = omega (arith, ints)

      not-due : (u : ℕ) (r : ℤ) → pos u *ℤ pos 0 *ℤ r ≡ pos 0
      not-due u r = ap (λ z. z *ℤ r) (none-left (pos u)) ∙ none-right r
        where
          none-left : (z : ℤ) → z *ℤ pos 0 ≡ pos 0
          none-left z = omega (arith, ints)

          none-right : (z : ℤ) → pos 0 *ℤ z ≡ pos 0
          none-right z = omega (arith, ints)

      each : (deferred started : Bool) → pos (P * D)
          *ℤ cond (deferred && started) (int_sum_over (subsets alive) (λ s. c s *ℤ (L s *ℤ rest s))) (pos 0) +ℤ pos
          (P * D) *ℤ cond (deferred && started) (int_sum_over (subsets alive) (λ s. d s *ℤ (E s *ℤ rest s))) (pos 0)
          ≡ cond started (int_sum_over (subsets alive)
          (λ s. pos D *ℤ cond deferred (pos P *ℤ (c s *ℤ L s +ℤ d s *ℤ E s)) (pos 0) *ℤ rest s)) (pos 0)
      each true true = sym (mul_add (pos (P * D)) (int_sum_over (subsets alive) (λ s. c s *ℤ (L s *ℤ rest s)))
          (int_sum_over (subsets alive) (λ s. d s *ℤ (E s *ℤ rest s))))
          ∙ ap (λ z. pos (P * D) *ℤ z)
          (sym (int_sum_over-add (subsets alive) (λ s. c s *ℤ (L s *ℤ rest s)) (λ s. d s *ℤ (E s *ℤ rest s)))
          ∙ int_sum_over-ext (subsets alive) _ _ (λ s. joined (c s) (L s) (d s) (E s) (rest s)))
          ∙ sym (int_sum_over-scale (subsets alive) (pos (P * D)) (λ s. (c s *ℤ L s +ℤ d s *ℤ E s) *ℤ rest s))
          ∙ int_sum_over-ext (subsets alive) _ _ (λ s. moved P D (c s *ℤ L s +ℤ d s *ℤ E s) (rest s))
      each true false = nothing (pos (P * D))
      each false true = nothing (pos (P * D))
          ∙ sym (int_sum_over-ext (subsets alive) _ _ (λ s. not-due D (rest s)) ∙ int_sum_over-none (subsets alive))
      each false false = nothing (pos (P * D))

  abbrev leaving_of_life : ℕ → ℤ
  leaving_of_life a = cond (events.lives a) (leaving_part b pay rank T (in_set alive) a) (pos 0)

  abbrev end_in_year : ℕ → ℤ
  end_in_year k = cond (events.terms (suc k)) (end_part b pay rank T (in_set alive) (suc k)) (pos 0)

  leaving-by-year : int_sum_over (numbers_from 0 (length b.lives)) leaving_of_life
      ≡ int_sum_over (numbers_from 0 b.last_time) (λ k. paid k
      *ℤ int_sum_over (numbers_from 0 (length b.lives)) (λ a. cond (events.lives a) (chance_of k a) (pos 0)))
  leaving-by-year = int_sum_over-ext (numbers_from 0 (length b.lives)) _ _ (λ a. inward (events.lives a) a)
      ∙ int_sum_over-swap (numbers_from 0 (length b.lives))
      (numbers_from 0 b.last_time) (λ a k. paid k *ℤ cond (events.lives a) (chance_of k a) (pos 0))
      ∙ int_sum_over-ext (numbers_from 0 b.last_time) _ _ (λ k. int_sum_over-scale
      (numbers_from 0 (length b.lives)) (paid k) (λ a. cond (events.lives a) (chance_of k a) (pos 0)))
    where
      no-payment : (z : ℤ) → z *ℤ pos 0 ≡ pos 0
      no-payment z = omega (arith, ints)

      inward : (looked : Bool) (a : ℕ) → cond looked (leaving_part b pay rank T (in_set alive) a) (pos 0)
          ≡ int_sum_over (numbers_from 0 b.last_time) (λ k. paid k *ℤ cond looked (chance_of k a) (pos 0))
      inward true a = refl
      inward false a = sym (int_sum_over-ext (numbers_from 0 b.last_time) _ _ (λ k. no-payment (paid k))
          ∙ int_sum_over-none (numbers_from 0 b.last_time))

  end-of-year : (k : ℕ) → end_in_year k ≡ paid k *ℤ cond (events.terms (suc k)) (end_of k) (pos 0)
  end-of-year k = let same : suc k - 1 ≡ k = omega arith in
      ap (λ m. cond (events.terms (suc k)) (paid m *ℤ end_of k) (pos 0)) same ∙ inward (events.terms (suc k))
    where
      inward : (looked : Bool) → cond looked (paid k *ℤ end_of k) (pos 0) ≡ paid k *ℤ cond looked (end_of k) (pos 0)
      inward true = refl
      inward false = omega (arith, ints)

  -- what falls on the events that are looked at, by sets
  pub events-by-sets : int_sum_over (numbers_from 0 (length b.lives)) leaving_of_life
      +ℤ int_sum_over (numbers_from 0 b.last_time) end_in_year
      ≡ int_sum_over (subsets alive) (λ s. set_value b pay events rank T s *ℤ rest s)
  events-by-sets = ap (λ z. z +ℤ int_sum_over (numbers_from 0 b.last_time) end_in_year) leaving-by-year
      ∙ ap (λ z. int_sum_over (numbers_from 0 b.last_time) (λ k. paid k
      *ℤ int_sum_over (numbers_from 0 (length b.lives)) (λ a. cond (events.lives a) (chance_of k a) (pos 0))) +ℤ z)
      (int_sum_over-ext (numbers_from 0 b.last_time) _ _ end-of-year)
      ∙ sym (int_sum_over-add (numbers_from 0 b.last_time) _ _)
      ∙ int_sum_over-ext (numbers_from 0 b.last_time) _ _ year
      ∙ from-start T b.last_time
      (λ k. int_sum_over (subsets alive) (λ s. pos (discounted b T (suc k)) *ℤ due k s *ℤ rest s))
      ∙ int_sum_over-swap
      (numbers_from T (b.last_time - T)) (subsets alive) (λ k s. pos (discounted b T (suc k)) *ℤ due k s *ℤ rest s)
      ∙ int_sum_over-ext (subsets alive) _ _ (λ s. int_sum_over-scale_right
      (numbers_from T (b.last_time - T)) (rest s) (λ k. pos (discounted b T (suc k)) *ℤ due k s)
      ∙ ap (λ z. z *ℤ rest s) (sym (value-over-is b (λ k. due k s) (b.last_time - T) T)))

-- a sum over the numbers that pass a test
filtered : (xs : List ℕ) (test : ℕ → Bool) (f : ℕ → ℤ)
    → ((n : ℕ) → test n ≡ false → f n ≡ pos 0) → int_sum_over (filter test xs) f ≡ int_sum_over xs f
filtered [] test f none = refl
filtered (x ∷ xs) test f none = each (test x) refl (filtered xs test f none)
  where
    each : (t : Bool) → test x ≡ t → int_sum_over (filter test xs) f ≡ int_sum_over xs f
        → int_sum_over (cond t (x ∷ filter test xs) (filter test xs)) f ≡ f x +ℤ int_sum_over xs f
    each true e rest = ap (λ z. f x +ℤ z) rest
    each false e rest = rest ∙ rw (none x e) (omega (arith, ints))

-- the numbers from the next one on
pub numbers-next : (count first : ℕ) (f : ℕ → ℤ)
    → int_sum_over (numbers_from (suc first) count) f ≡ int_sum_over (numbers_from first count) (λ i. f (suc i))
numbers-next zero first f = refl
numbers-next (suc count) first f = ap (λ z. f (suc first) +ℤ z) (numbers-next count (suc first) f)

module _ (b : Basis) (pay : PlainPay) (rank : ℕ → ℕ) (T : ℕ) (S : ℕ → Bool) where
  unnamed-part : (n : ℕ) → names_term n pay.body ≡ false → end_part b pay rank T S n ≡ pos 0
  unnamed-part n e = ap (λ z. pos (paid_for_year b pay T (n - 1)) *ℤ z) (no-chance-on-end pay rank T S b.lives n
      (silent (by_cause pay.causes (ends n)) (part-unnamed pay.mark pay.body n e)))
      ∙ nothing (pos (paid_for_year b pay T (n - 1)))
    where
      silent : (by : Bool) → holds_of (failing_part pay.mark pay.body) (names_term n) ≡ false
          → (by && holds_of (failing_part pay.mark pay.body) (names_term n)) ≡ false
      silent true q = q
      silent false q = refl

      nothing : (z : ℤ) → z *ℤ pos 0 ≡ pos 0
      nothing z = omega (arith, ints)

  -- the ends of terms, year by year
  terms-by-year : int_sum_over (terms_of b pay) (end_part b pay rank T S)
      ≡ int_sum_over (numbers_from 0 b.last_time) (λ k. end_part b pay rank T S (suc k))
  terms-by-year = filtered (numbers_from 1 b.last_time) (λ n. names_term n pay.body)
      (end_part b pay rank T S) unnamed-part ∙ numbers-next b.last_time 0 (end_part b pay rank T S)

pub insurance-by-sets : InsuranceBySets
insurance-by-sets b rule end pay is T alive len = insurance-by-parts b end pay is.kind T (in_set alive)
    ∙ int_sum_over-ext (taken b) _ _ (λ order.
    ap (λ z. int_sum_over (numbers_from 0 (length b.lives)) (leaving_part b pay (rank_in order) T (in_set alive)) +ℤ z)
    (terms-by-year b pay (rank_in order) T (in_set alive))
    ∙ events-by-sets b rule pay is (rank_in order) T alive len all_events)

chosen : (here : Bool) (z : ℤ) → cond here z (pos 0) ≡ indicator here *ℤ z
chosen true z = omega (arith, ints)
chosen false z = omega (arith, ints)

pub leaving-by-sets : LeavingBySets
leaving-by-sets b rule pay is rank T alive len a within =
    sym (int_sum_over-pick (length b.lives) 0 a (leaving_part b pay rank T (in_set alive)) (omega arith) (omega arith))
    ∙ int_sum_over-ext (numbers_from 0 (length b.lives)) _ _
    (λ i. sym (chosen (nat_eq i a) (leaving_part b pay rank T (in_set alive) i)))
    ∙ alone (int_sum_over
    (numbers_from 0 (length b.lives)) (λ i. cond (nat_eq i a) (leaving_part b pay rank T (in_set alive) i) (pos 0)))
    ∙ ap (λ z. int_sum_over (numbers_from 0 (length b.lives))
    (λ i. cond (nat_eq i a) (leaving_part b pay rank T (in_set alive) i) (pos 0)) +ℤ z)
    (sym (int_sum_over-none (numbers_from 0 b.last_time)))
    ∙ events-by-sets b rule pay is rank T alive len (leaving_of a)
  where
    alone : (z : ℤ) → z ≡ z +ℤ pos 0
    alone z = omega (arith, ints)

pub end-by-sets : EndBySets
end-by-sets b rule pay is rank T alive len n some within =
    ap (end_part b pay rank T (in_set alive)) last
    ∙ sym (int_sum_over-pick b.last_time 0
    (n - 1) (λ k. end_part b pay rank T (in_set alive) (suc k)) (omega arith) (omega arith))
    ∙ int_sum_over-ext (numbers_from 0 b.last_time) _ _
    (λ k. ap (λ test. indicator test *ℤ end_part b pay rank T (in_set alive) (suc k)) (shifted k)
    ∙ sym (chosen (nat_eq (suc k) n) (end_part b pay rank T (in_set alive) (suc k))))
    ∙ alone (int_sum_over (numbers_from 0 b.last_time)
    (λ k. cond (nat_eq (suc k) n) (end_part b pay rank T (in_set alive) (suc k)) (pos 0)))
    ∙ ap (λ z. z +ℤ int_sum_over (numbers_from 0 b.last_time)
    (λ k. cond (nat_eq (suc k) n) (end_part b pay rank T (in_set alive) (suc k)) (pos 0)))
    (sym (int_sum_over-none (numbers_from 0 (length b.lives))))
    ∙ events-by-sets b rule pay is rank T alive len (end_of_term n)
  where
    last : n ≡ suc (n - 1)
    last = omega arith

    shifted : (k : ℕ) → nat_eq k (n - 1) ≡ nat_eq (suc k) n
    shifted k = grind (arith, nat_tests)

    alone : (z : ℤ) → z ≡ pos 0 +ℤ z
    alone z = omega (arith, ints)
