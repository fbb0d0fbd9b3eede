-- The last time does not matter to values, premiums and reserves.
use Rattle.std.proofs.Common.{◌≡◌, ℕ, ◌*◌, ◌-◌, ◌<◌, ◌≤◌, arith, ap, sym, ◌∙◌, List, [], ◌∷◌, length, Bool, Option, Some, None, pos, ◌*ℤ◌, ◌-ℤ◌, ⊎_elim}
use Rattle.std.specs.Prelude.{All}
use Rattle.std.proofs.lemmas.Bool.{cases_lt}
use Rattle.std.proofs.lemmas.List.Elements.{All-head, All-tail}
use Rattle.halo_sums.specs.Sums.{numbers_from, product_over}
use Rattle.halo_sums.proofs.Integers.{pos_mul, sub_mul}
use Rattle.halo_status.specs.Pay.{PlainPay}
use Rattle.halo_status.specs.Tree.{Tree}
use Rattle.halo_contract.specs.Premium.{all_lives, premium_pay}
use Rattle.halo_model.specs.Basis.{Basis, accumulated, discounted, taken}
use Rattle.halo_model.specs.LastTime.{IsPaidBy, LastTimeDoesNotMatter, LastTimeOfPremium, LastTimeOfReserve, PremiumIsPaidBy, until}
use Rattle.halo_model.specs.Outcome.{joint_survivors}
use Rattle.halo_model.specs.Premium.{premium_denominator, premium_numerator, reserve_denominator, reserve_numerator}
use Rattle.halo_model.specs.Value.{denominator, numerator, total_numerator}
use Rattle.halo_model.proofs.Discounts.{accumulated-from}
use Rattle.halo_model.proofs.PaidBy.{IsAlike, numerator-alike}

turn : (q a b p : ℕ) → q * b * (p * a) ≡ q * a * (p * b)
turn q a b p = omega arith

-- two products of quotients that are alike
products-alike : (x y k l x' y' k' l' : ℕ)
    → x' * k ≡ x * k' → y' * l ≡ y * l' → x' * y' * (k * l) ≡ x * y * (k' * l')
products-alike x y k l x' y' k' l' e f =
    regroup x' y' k l ∙ ap (λ n. n * (y' * l)) e ∙ ap (λ n. x * k' * n) f ∙ sym (regroup x y k' l')
  where
    regroup : (p q m n : ℕ) → p * q * (m * n) ≡ p * m * (q * n)
    regroup p q m n = omega arith

-- a difference of two
difference-alike : (x y k x' y' k' : ℕ) → x' * k ≡ x * k' → y' * k ≡ y * k'
    → (pos x' -ℤ pos y') *ℤ pos k ≡ (pos x -ℤ pos y) *ℤ pos k'
difference-alike x y k x' y' k' e f =
    sub_mul (pos x') (pos y') (pos k)
    ∙ ap (λ z. z -ℤ pos y' *ℤ pos k) (times x' k x k' e) ∙ ap (λ z. pos x *ℤ pos k' -ℤ z) (times y' k y k' f)
    ∙ sym (sub_mul (pos x) (pos y) (pos k'))
  where
    times : (p q m n : ℕ) → p * q ≡ m * n → pos p *ℤ pos q ≡ pos m *ℤ pos n
    times p q m n h = sym (pos_mul p q) ∙ ap pos h ∙ pos_mul m n

module _ (b : Basis) (later : ℕ) (from : b.last_time ≤ later) where
  -- in the parts of which 1 has its worth with the interest up to the one last time and the other
  accumulated-alike : (T : ℕ) → IsAlike b later T (accumulated b T) (accumulated (until later b) T)
  accumulated-alike T = record { each = each }
    where
      each : (t : ℕ) → T ≤ t → t ≤ b.last_time
          → discounted (until later b) T t * accumulated b T ≡ discounted b T t * accumulated (until later b) T
      each t start before =
          ap (λ n. discounted (until later b) T t * n) (accumulated-from b T t start before)
          ∙ turn (product_over (numbers_from T (t - T)) b.q) (accumulated b t) (accumulated (until later b) t) _
          ∙ ap (λ n. discounted b T t * n) (sym (accumulated-from (until later b) T t start (omega arith)))

  -- and all that is paid grows by the interest between the two
  growth-alike : (T : ℕ) → IsAlike b later T 1 (accumulated (until later b) b.last_time)
  growth-alike T = record { each = each }
    where
      regroup : (q p g : ℕ) → q * (p * g) * 1 ≡ q * p * g
      regroup q p g = omega arith

      each : (t : ℕ) → T ≤ t → t ≤ b.last_time
          → discounted (until later b) T t * 1 ≡ discounted b T t * accumulated (until later b) b.last_time
      each t start before =
          ap (λ n. product_over (numbers_from T (t - T)) b.q * n * 1)
          (accumulated-from (until later b) t b.last_time before from)
          ∙ regroup _ (accumulated b t) (accumulated (until later b) b.last_time)

  totals-alike : (T c d : ℕ) → IsAlike b later T c d → (pays : List PlainPay) → All (IsPaidBy b.last_time b.lives) pays
      → (S : ℕ → Bool) → total_numerator (until later b) pays T S * c ≡ total_numerator b pays T S * d
  unfolding total_numerator
  totals-alike T c d alike [] paid S = omega arith
  totals-alike T c d alike (pay ∷ pays) paid S = omega (
    arith,
    numerator-alike b later from T c d alike pay (All-head (IsPaidBy b.last_time b.lives) pay pays paid) S,
    totals-alike T c d alike pays (All-tail (IsPaidBy b.last_time b.lives) pay pays paid) S,
  )

  -- what is alike in these parts is a like fraction
  fraction-alike : (T : ℕ) (S : ℕ → Bool) (x y : ℕ) → y * accumulated b T ≡ x * accumulated (until later b) T
      → y * denominator b T S ≡ x * denominator (until later b) T S
  unfolding denominator
  fraction-alike T S x y e =
      spread y (length (taken b)) (joint_survivors T S b.lives) (accumulated b T)
      ∙ ap (λ n. length (taken b) * joint_survivors T S b.lives * n) e
      ∙ sym (spread x (length (taken b)) (joint_survivors T S b.lives) (accumulated (until later b) T))
    where
      spread : (n orders joint all : ℕ) → n * (orders * (joint * all)) ≡ orders * joint * (n * all)
      spread n orders joint all = omega arith

  value-later : (pay : PlainPay) → IsPaidBy b.last_time b.lives pay → (T : ℕ) (S : ℕ → Bool)
      → numerator (until later b) pay T S * denominator b T S ≡ numerator b pay T S * denominator (until later b) T S
  value-later pay paid T S = fraction-alike T S (numerator b pay T S) (numerator (until later b) pay T S)
      (numerator-alike b later from T
      (accumulated b T) (accumulated (until later b) T) (accumulated-alike T) pay paid S)

  total-later : (pays : List PlainPay) → All (IsPaidBy b.last_time b.lives) pays → (T : ℕ) (S : ℕ → Bool)
      → total_numerator (until later b) pays T S * denominator b T S
      ≡ total_numerator b pays T S * denominator (until later b) T S
  total-later pays paid T S = fraction-alike T S (total_numerator b pays T S) (total_numerator (until later b) pays T S)
      (totals-alike T (accumulated b T) (accumulated (until later b) T) (accumulated-alike T) pays paid S)

  premium-later : (pays : List PlainPay) (status : Tree)
      → All (IsPaidBy b.last_time b.lives) pays → IsPaidBy b.last_time b.lives (premium_pay status)
      → premium_numerator (until later b) pays * premium_denominator b status
      ≡ premium_numerator b pays * premium_denominator (until later b) status
  unfolding premium_numerator premium_denominator
  premium-later pays status paid due =
      cross _ _ _ _ (totals-alike 0 1 (accumulated (until later b) b.last_time) (growth-alike 0) pays paid all_lives)
      (numerator-alike b later from 0 1 (accumulated (until later b) b.last_time) (growth-alike 0)
      (premium_pay status) due all_lives)
    where
      cross : (x y m n : ℕ) → y * 1 ≡ x * accumulated (until later b) b.last_time
          → n * 1 ≡ m * accumulated (until later b) b.last_time → y * m ≡ x * n
      cross x y m n e f =
          let grown : y ≡ x * accumulated (until later b) b.last_time = omega (arith, e) in
          let more : n ≡ m * accumulated (until later b) b.last_time = omega (arith, f) in
          rw (grown, more) (omega arith)

  reserve-later : (pays : List PlainPay) (premium : Option Tree)
      → All (IsPaidBy b.last_time b.lives) pays → PremiumIsPaidBy b.last_time b.lives premium
      → (T : ℕ) (S : ℕ → Bool)
      → reserve_numerator (until later b) pays premium T S *ℤ pos (reserve_denominator b premium T S)
      ≡ reserve_numerator b pays premium T S *ℤ pos (reserve_denominator (until later b) premium T S)
  unfolding reserve_numerator reserve_denominator
  reserve-later pays None paid due T S =
      sym (pos_mul (total_numerator (until later b) pays T S) (denominator b T S))
      ∙ ap pos (total-later pays paid T S)
      ∙ pos_mul (total_numerator b pays T S) (denominator (until later b) T S)
  reserve-later pays (Some status) paid due T S = difference-alike
      (total_numerator b pays T S * premium_denominator b status)
      (premium_numerator b pays * numerator b (premium_pay status) T S)
      (denominator b T S * premium_denominator b status)
      (total_numerator (until later b) pays T S * premium_denominator (until later b) status)
      (premium_numerator (until later b) pays * numerator (until later b) (premium_pay status) T S)
      (denominator (until later b) T S * premium_denominator (until later b) status)
      (products-alike _ (premium_denominator b status) _ (premium_denominator b status) _
      (premium_denominator (until later b) status) _ (premium_denominator (until later b) status)
      (total-later pays paid T S)
      (swap (premium_denominator (until later b) status) (premium_denominator b status)))
      (turned _ _ (premium_denominator b status) (denominator b T S)
      (premium_denominator (until later b) status) (denominator (until later b) T S)
      (products-alike _ _ _ _ _ _ _ _
      (premium-later pays status paid due) (value-later (premium_pay status) due T S)))
    where
      swap : (m n : ℕ) → m * n ≡ n * m
      swap m n = omega arith

      turned : (x y k l m n : ℕ) → x * (k * l) ≡ y * (m * n) → x * (l * k) ≡ y * (n * m)
      turned x y k l m n e = ap (λ z. x * z) (swap l k) ∙ e ∙ ap (λ z. y * z) (swap m n)

-- of any two last times one is the later one
pub last-time-does-not-matter : LastTimeDoesNotMatter
last-time-does-not-matter b last other pay paid paid_other T S = ⊎_elim
    (λ (before : last < other). sym (value-later (until last b) other (omega arith) pay paid T S))
    (λ (after : other ≤ last). value-later (until other b) last after pay paid_other T S)
    (cases_lt last other)

pub last-time-of-premium : LastTimeOfPremium
last-time-of-premium b last other pays status paid paid_other due due_other = ⊎_elim
    (λ (before : last < other). sym (premium-later (until last b) other (omega arith) pays status paid due))
    (λ (after : other ≤ last). premium-later (until other b) last after pays status paid_other due_other)
    (cases_lt last other)

pub last-time-of-reserve : LastTimeOfReserve
last-time-of-reserve b last other pays premium paid paid_other due due_other T S = ⊎_elim
    (λ (before : last < other). sym (reserve-later (until last b) other (omega arith) pays premium paid due T S))
    (λ (after : other ≤ last). reserve-later (until other b) last after pays premium paid_other due_other T S)
    (cases_lt last other)
