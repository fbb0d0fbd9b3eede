-- A level insurance of 1 is worth 1 less the interest in advance on the annuity-due.
use Rattle.std.proofs.Common.{◌≡◌, ℕ, zero, suc, ◌+◌, ◌*◌, ◌-◌, ◌<◌, ◌≤◌, arith, refl, ap, sym, ◌∙◌, length, true, cond, ◌&&◌, nat_le, None, ℤ, pos, ◌+ℤ◌, ◌-ℤ◌, ◌*ℤ◌}
use Rattle.std.specs.Prelude.{IsTrue}
use Rattle.std.proofs.lemmas.Bool.Decides.{nat_tests}
use Rattle.std.proofs.lemmas.Int.{ints}
use Rattle.halo_sums.specs.Sums.{indicator, int_sum_over, numbers_from, product_over}
use Rattle.halo_sums.proofs.Integers.{add_mul, mul_assoc, mul_comm, mul_left_comm, mul_sub, pos_add, pos_mul}
use Rattle.halo_sums.proofs.IntSums.{int_sum_over-ext, int_sum_over-scale}
use Rattle.halo_sums.proofs.Numbers.{numbers_from-add}
use Rattle.halo_sums.proofs.Sums.{product_over-append, sum_over-ext}
use Rattle.halo_status.specs.Naming.{NamesLivesBelow, names_term}
use Rattle.halo_status.specs.Exists.{exists}
use Rattle.halo_status.specs.Pay.{PlainPay}
use Rattle.halo_status.specs.View.{is_on}
use Rattle.halo_status.specs.declared.pay.Vary.TheVariants.{Level}
use Rattle.halo_status.specs.declared.view.View.TheVariants.{Due as DueView}
use Rattle.halo_model.specs.Life.{AreLives}
use Rattle.halo_model.specs.Outcome.{joint_survivors, outcomes, weight}
use Rattle.halo_model.specs.There.{lives_at}
use Rattle.halo_model.specs.Basis.{Basis, accumulated, discounted, taken}
use Rattle.halo_model.specs.Coefficient.{form, view_of}
use Rattle.halo_model.specs.Payment.{payment}
use Rattle.halo_model.specs.Chance.{IsValidInsurance}
use Rattle.halo_model.specs.Part.{due_part, existing_weight, paid_for_year}
use Rattle.halo_model.specs.PartLaws.{EndBy}
use Rattle.halo_contract.specs.Premium.{all_lives}
use Rattle.halo_model.specs.Value.{denominator, numerator}
use Rattle.halo_model.specs.ByYears.{InsuranceFromAnnuity, as_due, due_numerator_at, year_part}
use Rattle.halo_model.proofs.Annuities.{exists-weight}
use Rattle.halo_model.proofs.ByYears.{insurance-by-years}
use Rattle.halo_model.proofs.Expected.{expected-none, expected-pos, expected-where}
use Rattle.halo_model.proofs.StartAndEnd.{exists-at-start, fallen-at-last}
use Rattle.halo_model.proofs.Weights.{weights-add}

-- summation by parts
module _ (d w e : ℕ → ℤ) where
  step : (d0 d1 w0 w1 e0 : ℤ) → d0 ≡ e0 +ℤ d1 → d1 *ℤ (w0 -ℤ w1) ≡ d0 *ℤ w0 -ℤ d1 *ℤ w1 -ℤ e0 *ℤ w0
  step d0 d1 w0 w1 e0 h = rw h (mul_sub d1 w0 w1
      ∙ balance (d1 *ℤ w0) (d1 *ℤ w1) (e0 *ℤ w0) ∙ ap (λ z. z -ℤ d1 *ℤ w1 -ℤ e0 *ℤ w0) (sym (add_mul e0 d1 w0)))
    where
      balance : (x y z : ℤ) → x -ℤ y ≡ (z +ℤ x) -ℤ y -ℤ z
      balance x y z = omega (arith, ints)

  by-parts : (count first : ℕ) → ((k : ℕ) → first ≤ k → k < first + count → d k ≡ e k +ℤ d (suc k))
      → int_sum_over (numbers_from first count) (λ k. d (suc k) *ℤ (w k -ℤ w (suc k))) ≡ d first *ℤ w first
      -ℤ d (first + count) *ℤ w (first + count) -ℤ int_sum_over (numbers_from first count) (λ k. e k *ℤ w k)
  by-parts zero first falls = let same : first ≡ first + 0 = omega arith in rw (← same) (nothing (d first *ℤ w first))
    where
      nothing : (z : ℤ) → pos 0 ≡ z -ℤ z -ℤ pos 0
      nothing z = omega (arith, ints)
  by-parts (suc count) first falls =
      ap (λ z. z +ℤ int_sum_over (numbers_from (suc first) count) (λ k. d (suc k) *ℤ (w k -ℤ w (suc k))))
      (step (d first) (d (suc first)) (w first) (w (suc first)) (e first) (falls first (omega arith) (omega arith)))
      ∙ ap (λ z. d first *ℤ w first -ℤ d (suc first) *ℤ w (suc first) -ℤ e first *ℤ w first +ℤ z)
      (by-parts count (suc first) (λ k from within. falls k (omega arith) (omega (arith, within))))
      ∙ join (d first *ℤ w first)
      (d (suc first) *ℤ w (suc first)) (e first *ℤ w first) (d (suc first + count) *ℤ w (suc first + count))
      (int_sum_over (numbers_from (suc first) count) (λ k. e k *ℤ w k))
      ∙ ap (λ n. d first *ℤ w first
      -ℤ d n *ℤ w n -ℤ (e first *ℤ w first +ℤ int_sum_over (numbers_from (suc first) count) (λ k. e k *ℤ w k))) last
    where
      last : suc first + count ≡ first + suc count
      last = omega arith

      join : (a m x z r : ℤ) → a -ℤ m -ℤ x +ℤ (m -ℤ z -ℤ r) ≡ a -ℤ z -ℤ (x +ℤ r)
      join a m x z r = omega (arith, ints)

module _ (b : Basis) where
  -- the discount of all years before k, cleared of fractions
  abbrev early : ℕ → ℕ
  early k = product_over (numbers_from 0 k) b.q

  -- 1 paid at time k, at the start
  abbrev now : ℕ → ℕ
  now k = discounted b 0 k

  -- what it loses in year k
  abbrev lost : ℕ → ℕ
  lost k = early k * (b.p k * accumulated b (suc k))

  now-is : (k : ℕ) → now k ≡ early k * accumulated b k
  now-is k = let e : k - 0 ≡ k = omega arith in ap (λ n. product_over (numbers_from 0 n) b.q * accumulated b k) e

  early-next : (k : ℕ) → early (suc k) ≡ early k * b.q k
  early-next k =
      let long : suc k ≡ k + 1 = omega arith in
      ap (λ n. product_over (numbers_from 0 n) b.q) long ∙ ap (λ ks. product_over ks b.q) (numbers_from-add k 1 0)
      ∙ product_over-append (numbers_from 0 k) (numbers_from (0 + k) 1) b.q
      ∙ ap (λ n. early k * n) (single (0 + k) (omega arith))
    where
      single : (n : ℕ) → n ≡ k → b.q n * 1 ≡ b.q k
      single n e = rw e (omega arith)

  accumulated-next : (k : ℕ) → k < b.last_time → accumulated b k ≡ (b.p k + b.q k) * accumulated b (suc k)
  accumulated-next k before = let e : b.last_time - k ≡ suc (b.last_time - suc k) = omega arith in
      ap (λ n. product_over (numbers_from k n) (λ k. b.p k + b.q k)) e

  now-falls : (k : ℕ) → k < b.last_time → now k ≡ lost k + now (suc k)
  now-falls k before = now-is k
      ∙ ap (λ n. early k * n) (accumulated-next k before) ∙ spread (early k) (b.p k) (b.q k) (accumulated b (suc k))
      ∙ ap (λ n. lost k + n) (ap (λ n. n * accumulated b (suc k)) (sym (early-next k)) ∙ sym (now-is (suc k)))
    where
      spread : (x p q a : ℕ) → x * ((p + q) * a) ≡ x * (p * a) + x * q * a
      spread x p q a = omega arith

  lost-is-share : (k : ℕ) → k < b.last_time → lost k * (b.p k + b.q k) ≡ b.p k * now k
  lost-is-share k before = turn (early k) (b.p k) (b.p k + b.q k) (accumulated b (suc k))
      ∙ ap (λ n. b.p k * n) (ap (λ n. early k * n) (sym (accumulated-next k before)) ∙ sym (now-is k))
    where
      turn : (x p r a : ℕ) → x * (p * a) * r ≡ p * (x * (r * a))
      turn x p r a = omega arith

module _ (b : Basis) (rule : AreLives b.lives)
    (end : EndBy b.last_time b.lives) (pay : PlainPay) (is : IsValidInsurance pay) (plain : pay.mark ≡ None)
    (level : pay.vary ≡ Level) (undeferred : pay.defer ≡ 0) (one : pay.amount ≡ 1) where
  abbrev exists_weight : ℕ → ℤ
  exists_weight k = existing_weight b pay 0 all_lives k

  -- the body exists at the start, and no more at the last time
  at-start : NamesLivesBelow (length b.lives) pay.body → exists_weight 0 ≡ pos (joint_survivors 0 all_lives b.lives)
  at-start below = sym (exists-weight b rule pay plain DueView (ap view_of is.kind) 0 all_lives 0 (omega arith))
      ∙ expected-where 0 all_lives b.lives (λ o. indicator (exists (lives_at 0 o) (is_on DueView 0) pay.body))
      (λ o. pos 1) (λ o comes. ap indicator (exists-at-start pay is 0 all_lives b.lives o comes below (λ i. refl)))
      ∙ sym (expected-pos 0 all_lives b.lives (λ o. 1))
      ∙ ap pos (sum_over-ext (outcomes 0 all_lives b.lives)
      (λ o. weight b.lives o * 1) (λ o. weight b.lives o) (λ o. omega arith) ∙ weights-add 0 all_lives b.lives rule)

  at-last : ((n : ℕ) → IsTrue (names_term n pay.body) → n ≤ b.last_time) → exists_weight b.last_time ≡ pos 0
  at-last short =
      sym (exists-weight b rule pay plain DueView (ap view_of is.kind) 0 all_lives b.last_time (omega arith))
      ∙ expected-where 0 all_lives b.lives
      (λ o. indicator (exists (lives_at b.last_time o) (is_on DueView b.last_time) pay.body)) (λ o. pos 0)
      (λ o comes. ap indicator (fallen-at-last pay is 0 all_lives b.lives o comes b.last_time end short))
      ∙ expected-none 0 all_lives b.lives

  pays-one : (passed : ℕ) → payment pay passed ≡ 1
  pays-one passed = rw (one, level) refl

  from-zero : (k : ℕ) → nat_le 0 k ≡ true
  from-zero k = grind (arith, nat_tests)

  year-is : (k : ℕ) → year_part b pay 0 all_lives k ≡ pos (now b (suc k)) *ℤ (exists_weight k -ℤ exists_weight (suc k))
  year-is k =
      ap (λ due. cond due (pos (paid_for_year b pay 0 k) *ℤ (exists_weight k -ℤ exists_weight (suc k))) (pos 0)) allowed
      ∙ ap (λ n. pos (n * now b (suc k)) *ℤ (exists_weight k -ℤ exists_weight (suc k))) (pays-one (k - pay.defer))
      ∙ ap (λ n. pos n *ℤ (exists_weight k -ℤ exists_weight (suc k))) (once (now b (suc k)))
    where
      allowed : (nat_le pay.defer k && nat_le 0 k) ≡ true
      allowed = rw (undeferred, from-zero k) refl

      once : (n : ℕ) → 1 * n ≡ n
      once n = omega arith

  due-is : (k : ℕ) → due_part b (as_due pay) 0 all_lives k ≡ pos (now b k) *ℤ exists_weight k
  unfolding form
  due-is k = rw (undeferred, from-zero k, one, level, is.kind)
      (ap (λ n. pos n *ℤ existing_weight b (as_due pay) 0 all_lives k) (once (now b k)))
    where
      once : (n : ℕ) → 1 * n ≡ n
      once n = omega arith

  -- the interest in advance of year k on the annuity-due
  abbrev quotient : ℕ → ℤ
  quotient k = pos (length (taken b)) *ℤ (pos (lost b k) *ℤ exists_weight k)

  quotient-is-whole : (k : ℕ)
      → k < b.last_time → quotient k *ℤ pos (b.p k + b.q k) ≡ pos (b.p k) *ℤ due_numerator_at b pay k
  quotient-is-whole k before = shuffle (pos (length (taken b))) (pos (lost b k)) (exists_weight k) (pos (b.p k + b.q k))
      ∙ ap (λ z. pos (length (taken b)) *ℤ (z *ℤ exists_weight k))
      (sym (pos_mul (lost b k) (b.p k + b.q k)) ∙ ap pos (lost-is-share b k before) ∙ pos_mul (b.p k) (now b k))
      ∙ ap (λ z. pos (length (taken b)) *ℤ z) (mul_assoc (pos (b.p k)) (pos (now b k)) (exists_weight k))
      ∙ mul_left_comm (pos (length (taken b))) (pos (b.p k)) (pos (now b k) *ℤ exists_weight k)
      ∙ ap (λ z. pos (b.p k) *ℤ (pos (length (taken b)) *ℤ z)) (sym (due-is k))
    where
      shuffle : (n l w r : ℤ) → n *ℤ (l *ℤ w) *ℤ r ≡ n *ℤ (l *ℤ r *ℤ w)
      shuffle n l w r = mul_assoc n (l *ℤ w) r
          ∙ ap (λ z. n *ℤ z) (mul_assoc l w r ∙ ap (λ z. l *ℤ z) (mul_comm w r) ∙ sym (mul_assoc l r w))

  value-is : pay.causes ≡ None
      → NamesLivesBelow (length b.lives) pay.body → ((n : ℕ) → IsTrue (names_term n pay.body) → n ≤ b.last_time)
      → pos (numerator b pay 0 all_lives)
      ≡ pos (denominator b 0 all_lives) -ℤ int_sum_over (numbers_from 0 b.last_time) quotient
  unfolding denominator
  value-is any_cause below short =
      insurance-by-years b rule end pay is.kind plain any_cause (is.valid.lasting is.kind) 0 all_lives
      ∙ ap (λ z. pos (length (taken b)) *ℤ z) (int_sum_over-ext (numbers_from 0 b.last_time) _ _ year-is
      ∙ by-parts (λ k. pos (now b k)) exists_weight (λ k. pos (lost b k)) b.last_time 0 falls)
      ∙ ap (λ n. pos (length (taken b))
      *ℤ (pos (now b 0) *ℤ exists_weight 0 -ℤ pos (now b n) *ℤ exists_weight n -ℤ shares)) (omega arith)
      ∙ ap (λ z. pos (length (taken b)) *ℤ (pos (now b 0) *ℤ exists_weight 0 -ℤ pos (now b b.last_time) *ℤ z -ℤ shares))
      (at-last short)
      ∙ ap (λ z. pos (length (taken b)) *ℤ (pos (now b 0) *ℤ z -ℤ pos (now b b.last_time) *ℤ pos 0 -ℤ shares))
      (at-start below)
      ∙ ap (λ z. pos (length (taken b)) *ℤ (z -ℤ shares))
      (whole (pos (now b b.last_time)) (pos (now b 0)) (pos (joint_survivors 0 all_lives b.lives)))
      ∙ mul_sub (pos (length (taken b))) (pos (now b 0) *ℤ pos (joint_survivors 0 all_lives b.lives)) shares
      ∙ ap (λ z. z -ℤ pos (length (taken b)) *ℤ shares) first
      ∙ ap (λ z. pos (length (taken b) * (joint_survivors 0 all_lives b.lives * accumulated b 0)) -ℤ z)
      (sym (int_sum_over-scale
      (numbers_from 0 b.last_time) (pos (length (taken b))) (λ k. pos (lost b k) *ℤ exists_weight k)))
    where
      shares : ℤ
      shares = int_sum_over (numbers_from 0 b.last_time) (λ k. pos (lost b k) *ℤ exists_weight k)

      falls : (k : ℕ) → 0 ≤ k → k < 0 + b.last_time → pos (now b k) ≡ pos (lost b k) +ℤ pos (now b (suc k))
      falls k from before = ap pos (now-falls b k (omega (arith, before))) ∙ pos_add (lost b k) (now b (suc k))

      whole : (l n j : ℤ) → n *ℤ j -ℤ l *ℤ pos 0 ≡ n *ℤ j
      whole l n j = let e : l *ℤ pos 0 ≡ pos 0 = none l in rw e (less (n *ℤ j))
        where
          none : (z : ℤ) → z *ℤ pos 0 ≡ pos 0
          none z = omega (arith, ints)

          less : (z : ℤ) → z -ℤ pos 0 ≡ z
          less z = omega (arith, ints)

      first : pos (length (taken b)) *ℤ (pos (now b 0) *ℤ pos (joint_survivors 0 all_lives b.lives))
          ≡ pos (length (taken b) * (joint_survivors 0 all_lives b.lives * accumulated b 0))
      first = ap (λ n. pos (length (taken b)) *ℤ (pos n *ℤ pos (joint_survivors 0 all_lives b.lives))) (now-is b 0)
          ∙ place (length (taken b)) (accumulated b 0) (joint_survivors 0 all_lives b.lives)
        where
          place : (n a j : ℕ) → pos n *ℤ (pos (1 * a) *ℤ pos j) ≡ pos (n * (j * a))
          place n a j = ap (λ z. pos n *ℤ z) (sym (pos_mul (1 * a) j))
              ∙ sym (pos_mul n (1 * a * j)) ∙ ap pos (turn n a j)
            where
              turn : (n a j : ℕ) → n * (1 * a * j) ≡ n * (j * a)
              turn n a j = omega arith

pub insurance-from-annuity : InsuranceFromAnnuity
insurance-from-annuity b rule end pay is plain any_cause level undeferred one below short = (
  quotient b rule end pay is plain level undeferred one,
  quotient-is-whole b rule end
      pay is plain level undeferred one,
  value-is b rule end pay is plain level undeferred one any_cause below short,
)
