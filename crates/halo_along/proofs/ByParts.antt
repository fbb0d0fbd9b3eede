-- The parts of the value of an insurance are what it pays in the years from the valuation to its horizon.
use Rattle.std.proofs.Common.{◌≡◌, ℕ, zero, suc, ◌+◌, ◌*◌, ◌-◌, ◌<◌, ◌≤◌, arith, refl, ap, sym, ◌∙◌, List, [], ◌∷◌, length, filter, Bool, true, false, cond, ◌&&◌, nat_le, ℤ, pos, ◌+ℤ◌, ◌*ℤ◌}
use Rattle.std.proofs.Math.IntN.{*ℤ-zero}
use Rattle.std.proofs.lemmas.Bool.Decides.{nat_tests}
use Rattle.std.proofs.lemmas.Int.{ints}
use Rattle.halo_sums.specs.Sums.{indicator, int_sum_over, numbers_from}
use Rattle.halo_sums.proofs.IntSums.{int_sum_over-ext, int_sum_over-none}
use Rattle.halo_status.specs.Naming.{names_life, names_term}
use Rattle.halo_status.specs.Pay.{PlainPay}
use Rattle.halo_status.specs.declared.pay.Kind.TheVariants.{Insurance}
use Rattle.halo_contract.specs.declared.ties.Ties.TheVariants.{Declared}
use Rattle.halo_model.specs.Basis.{Basis, discounted}
use Rattle.halo_model.specs.Chance.{paid_on_leaving}
use Rattle.halo_model.specs.Event.{ends}
use Rattle.halo_model.specs.Expectation.{HasYear, expected}
use Rattle.halo_model.specs.Horizon.{Covers, horizon, years_left_of}
use Rattle.halo_model.specs.Life.{PlainLife}
use Rattle.halo_model.specs.Order.{orders_taken, rank_in}
use Rattle.halo_model.specs.Part.{end_part, leaving_part, paid_for_year, terms_of}
use Rattle.halo_model.specs.PartLaws.{EndBy}
use Rattle.halo_model.specs.Payment.{by_cause, falls_on, payment}
use Rattle.halo_model.specs.SetValue.{can_fall_on_life, can_fall_on_term, failing_part, holds_of}
use Rattle.halo_model.specs.Value.{numerator}
use Rattle.halo_model.proofs.HorizonIsLeast.{horizon-is-least}
use Rattle.halo_model.proofs.InsuranceBySets.{numbers-next}
use Rattle.halo_model.proofs.Insurances.{insurance-by-parts}
use Rattle.halo_model.proofs.NoFall.{no-chance-on-end, no-chance-on-leaving, part-unnamed, part-unnamed_life}
use Rattle.halo_model.proofs.Outside.{no-chance-on-end-outside, no-chance-on-leaving-outside}
use Rattle.halo_along.specs.Contingent.{value_on_end, value_on_ends}
use Rattle.halo_along.specs.Insured.{insured_in}
use Rattle.halo_along.specs.Leavings.{declared_rank, value_on_leaving, value_on_leavings}
use Rattle.halo_along.proofs.Value.{middle, where-allowed}

no-product : (d : ℕ) (p : ℕ) (x : ℤ) → x ≡ pos 0 → (pos d *ℤ x) *ℤ pos p ≡ pos 0
no-product d p x none =
    ap (λ z. (pos d *ℤ z) *ℤ pos p) none ∙ ap (λ z. z *ℤ pos p) (*ℤ-zero (pos d)) ∙ no-times p
  where
    no-times : (p : ℕ) → pos 0 *ℤ pos p ≡ pos 0
    no-times p = omega (arith, ints)

-- a payment that cannot come before the deferral
paid-in-year : (may : Bool) (p d : ℕ) (x : ℤ) → (may ≡ false → x ≡ pos 0)
    → pos (p * d) *ℤ x ≡ (pos d *ℤ x) *ℤ pos (cond may p 0)
paid-in-year true p d x none = where-allowed true p d x
paid-in-year false p d x none =
    ap (λ z. pos (p * d) *ℤ z) (none refl) ∙ *ℤ-zero (pos (p * d)) ∙ sym (no-product d 0 x (none refl))

not-reached : (m n : ℕ) → nat_le m n ≡ false → m ≤ n → ⊥
not-reached m n e h = absurd (grind (arith, nat_tests))

-- the life has years left where its table has the year
year-is-left : (a k : ℕ) (lives : List PlainLife) → HasYear a k lives → k < years_left_of lives a
year-is-left a k [] h = absurd h
year-is-left zero k (x ∷ lives) h = h
year-is-left (suc a) k (x ∷ lives) h = year-is-left a k lives h

-- a sum over those that pass a test, where the others add nothing
filtered : (xs : List ℕ) (test : ℕ → Bool) (f : ℕ → ℤ)
    → ((n : ℕ) → test n ≡ false → f n ≡ pos 0) → int_sum_over (filter test xs) f ≡ int_sum_over xs f
filtered [] test f none = refl
filtered (x ∷ xs) test f none = each (test x) refl (filtered xs test f none)
  where
    each : (t : Bool) → test x ≡ t → int_sum_over (filter test xs) f ≡ int_sum_over xs f
        → int_sum_over (cond t (x ∷ filter test xs) (filter test xs)) f ≡ f x +ℤ int_sum_over xs f
    each true e rest = ap (λ z. f x +ℤ z) rest
    each false e rest = rest ∙ rw (none x e) (omega (arith, ints))

-- a body names the terms on whose end a payment can fall
pub ending-named : (pay : PlainPay) (n : ℕ) → can_fall_on_term pay n ≡ true → names_term n pay.body ≡ true
ending-named pay n falls = each (names_term n pay.body) refl
  where
    silent : (by : Bool) → holds_of (failing_part pay.mark pay.body) (names_term n) ≡ false
        → (by && holds_of (failing_part pay.mark pay.body) (names_term n)) ≡ false
    silent true q = q
    silent false q = refl

    each : (named : Bool) → names_term n pay.body ≡ named → named ≡ true
    each true e = refl
    each false e = absurd (
        let none = silent (by_cause pay.causes (ends n)) (part-unnamed pay.mark pay.body n e) in
        let no : true ≡ false = sym falls ∙ none in cc
        )

-- and the lives on whose leaving one can
pub falling-named : (pay : PlainPay) (a : ℕ) → can_fall_on_life pay a ≡ true → names_life a pay.body ≡ true
falling-named pay a falls = each (names_life a pay.body) refl
  where
    each : (named : Bool) → names_life a pay.body ≡ named → named ≡ true
    each true e = refl
    each false e = absurd (
        let silent : can_fall_on_life pay a ≡ false = part-unnamed_life pay.mark pay.body a e in
        let no : true ≡ false = sym falls ∙ silent in cc
        )

module _ (b : Basis) (pay : PlainPay) (T : ℕ) (S : ℕ → Bool) where
  abbrev rank : ℕ → ℕ
  rank = declared_rank (length b.lives)

  abbrev years : ℕ
  years = horizon b.lives pay.body

  covers : Covers b.lives pay.body years
  covers = (horizon-is-least b.lives pay.body years).0 (omega arith)

  -- the years from the valuation to the horizon are among all
  in-all : (f : ℕ → ℤ) → T ≤ b.last_time → years ≤ b.last_time
      → ((k : ℕ) → k < T → f k ≡ pos 0) → ((k : ℕ) → years ≤ k → f k ≡ pos 0)
      → int_sum_over (numbers_from 0 b.last_time) f ≡ int_sum_over (numbers_from T (years - T)) f
  in-all f started ended before after =
      let times : b.last_time ≡ T + ((years - T) + (b.last_time - (T + (years - T)))) = omega arith in
      ap (λ (n : ℕ). int_sum_over (numbers_from 0 n) f) times
      ∙ middle f T (years - T) (b.last_time - (T + (years - T))) before (λ k late. after k (omega (arith, late)))

  module _ (a : ℕ) where
    abbrev chance : ℕ → ℤ
    chance k = expected T S b.lives (λ o. indicator (paid_on_leaving pay rank T a k o))

    -- what it pays on the leaving of a life that the body names
    pub leavings-to-horizon : names_life a pay.body ≡ true → T ≤ b.last_time → years ≤ b.last_time
        → leaving_part b pay rank T S a ≡ value_on_leavings b pay T S a (years - T)
    leavings-to-horizon named started ended =
        int_sum_over-ext (numbers_from 0 b.last_time) _ (value_on_leaving b pay T S a)
        (λ k. paid-in-year (nat_le pay.defer k) (payment pay (k - pay.defer)) (discounted b T (suc k)) (chance k)
        (λ e. no-chance-on-leaving-outside pay rank T a k S b.lives (λ here since d year. not-reached pay.defer k e d)))
        ∙ in-all (value_on_leaving b pay T S a) started ended
        (λ k early. no-product (discounted b T (suc k)) (insured_in pay k) (chance k)
        (no-chance-on-leaving-outside pay rank T a k S b.lives
        (λ here since d year. absurd (omega (arith, early, since)))))
        (λ k late. no-product (discounted b T (suc k)) (insured_in pay k) (chance k)
        (no-chance-on-leaving-outside pay rank T a k S b.lives
        (λ here since d year.
        absurd (omega (arith, late, year-is-left a k b.lives year, covers.each_life a named)))))

    -- nothing on that of a life that is not alive, or on which no payment can fall
    pub no-leavings : ((k : ℕ) → chance k ≡ pos 0) → leaving_part b pay rank T S a ≡ pos 0
    no-leavings none = int_sum_over-ext (numbers_from 0 b.last_time) _ (λ k. pos 0)
        (λ k. ap (λ z. pos (payment pay (k - pay.defer) * discounted b T (suc k)) *ℤ z) (none k)
        ∙ *ℤ-zero (pos (payment pay (k - pay.defer) * discounted b T (suc k))))
        ∙ int_sum_over-none (numbers_from 0 b.last_time)

    pub gone-leavings : S a ≡ false → leaving_part b pay rank T S a ≡ pos 0
    gone-leavings gone = no-leavings (λ k. no-chance-on-leaving-outside pay rank T a k S b.lives
        (λ here since d year. absurd (let q : true ≡ false = sym here ∙ gone in cc)))

    pub silent-leavings : can_fall_on_life pay a ≡ false → leaving_part b pay rank T S a ≡ pos 0
    silent-leavings silent = no-leavings (λ k. no-chance-on-leaving pay rank T S b.lives a k silent)

  abbrev end_chance : ℕ → ℤ
  end_chance n = expected T S b.lives (λ o. indicator (falls_on pay rank T o (ends n)))

  -- no payment falls on the end of a term that the body does not name
  unnamed-end : (n : ℕ) → names_term n pay.body ≡ false → end_chance n ≡ pos 0
  unnamed-end n e = no-chance-on-end pay rank T S b.lives n
      (silent (by_cause pay.causes (ends n)) (part-unnamed pay.mark pay.body n e))
    where
      silent : (by : Bool) → holds_of (failing_part pay.mark pay.body) (names_term n) ≡ false
          → (by && holds_of (failing_part pay.mark pay.body) (names_term n)) ≡ false
      silent true q = q
      silent false q = refl

  unnamed-part : (n : ℕ) → names_term n pay.body ≡ false → end_part b pay rank T S n ≡ pos 0
  unnamed-part n e = ap (λ z. pos (paid_for_year b pay T (n - 1)) *ℤ z) (unnamed-end n e)
      ∙ *ℤ-zero (pos (paid_for_year b pay T (n - 1)))

  no-term-beyond : (k : ℕ) → years ≤ k → names_term (suc k) pay.body ≡ false
  no-term-beyond k late = each (names_term (suc k) pay.body) refl
    where
      each : (named : Bool) → names_term (suc k) pay.body ≡ named → named ≡ false
      each true e = absurd (omega (arith, late, covers.each_term (suc k) e))
      each false e = refl

  -- the part of a term's end, by the year with which it ends
  pub end-in-year : (k : ℕ) → end_part b pay rank T S (suc k) ≡ value_on_end b pay T S k
  end-in-year k =
      let last : suc k - 1 ≡ k = omega arith in
      ap (λ (j : ℕ). pos (paid_for_year b pay T j) *ℤ end_chance (suc k)) last
      ∙ paid-in-year (nat_le pay.defer k) (payment pay (k - pay.defer)) (discounted b T (suc k)) (end_chance (suc k))
      (λ e. no-chance-on-end-outside pay rank T (suc k) S b.lives
      (λ causes d since. not-reached pay.defer k e (omega (arith, d))))

  -- what it pays on the ends of terms
  pub ends-to-horizon : T ≤ b.last_time → years ≤ b.last_time
      → int_sum_over (terms_of b pay) (end_part b pay rank T S) ≡ value_on_ends b pay T S (years - T)
  ends-to-horizon started ended =
      filtered (numbers_from 1 b.last_time) (λ n. names_term n pay.body) (end_part b pay rank T S) unnamed-part
      ∙ numbers-next b.last_time 0 (end_part b pay rank T S)
      ∙ int_sum_over-ext (numbers_from 0 b.last_time) _ (value_on_end b pay T S) end-in-year
      ∙ in-all (value_on_end b pay T S) started ended
      (λ k early. no-product (discounted b T (suc k)) (insured_in pay k) (end_chance (suc k))
      (no-chance-on-end-outside pay rank T (suc k) S b.lives
      (λ causes d since. absurd (omega (arith, early, since)))))
      (λ k late. no-product (discounted b T (suc k)) (insured_in pay k) (end_chance (suc k))
      (unnamed-end (suc k) (no-term-beyond k late)))

  -- in the declared order the value is what it pays on the leavings and on the ends
  pub in-declared-order : EndBy b.last_time b.lives → pay.kind ≡ Insurance → b.ties ≡ Declared
      → T ≤ b.last_time → years ≤ b.last_time
      → pos (numerator b pay T S)
      ≡ int_sum_over (numbers_from 0 (length b.lives)) (leaving_part b pay rank T S)
      +ℤ value_on_ends b pay T S (years - T)
  in-declared-order end kind ties started ended =
      insurance-by-parts b end pay kind T S
      ∙ ap (λ rule. int_sum_over (orders_taken rule (length b.lives)) (λ order.
      int_sum_over (numbers_from 0 (length b.lives)) (leaving_part b pay (rank_in order) T S)
      +ℤ int_sum_over (terms_of b pay) (end_part b pay (rank_in order) T S))) ties
      ∙ alone _
      ∙ ap (λ z. int_sum_over (numbers_from 0 (length b.lives)) (leaving_part b pay rank T S) +ℤ z)
      (ends-to-horizon started ended)
    where
      alone : (z : ℤ) → z +ℤ pos 0 ≡ z
      alone z = omega (arith, ints)
