-- The insurance on one life.
use Rattle.std.proofs.Common.{◌≡◌, ℕ, suc, ◌+◌, ◌*◌, ◌-◌, arith, refl, ap, ◌∙◌, List, [], ◌∷◌, Bool, true, false, cond, ◌&&◌, filter, map, nat_eq, nat_le, nat_lt, not, ◌||◌, Option, Some, None}
use Rattle.std.proofs.Math.Bool.{and-true}
use Rattle.std.proofs.lemmas.Bool.Decides.{nat_tests}
use Rattle.halo_sums.specs.Sums.{numbers_from, sum_over}
use Rattle.halo_sums.proofs.Sums.{sum_over-const, sum_over-ext, sum_over-none, sum_over-flat_map, sum_over-map, sum_over-scale}
use Rattle.halo_sums.specs.Masks.{has_bit}
use Rattle.halo_status.specs.Naming.{names_term}
use Rattle.halo_status.specs.Pay.{PlainPay}
use Rattle.halo_status.specs.Tree.{life}
use Rattle.halo_model.specs.Basis.{Basis, discounted, taken}
use Rattle.halo_model.specs.Chance.{asked}
use Rattle.halo_model.specs.Event.{leaves, term_ends}
use Rattle.halo_model.specs.Life.{PlainLife, leavers_by}
use Rattle.halo_model.specs.OneLife.{InsuranceOnOneLife}
use Rattle.halo_model.specs.Order.{rank_in}
use Rattle.halo_model.specs.Outcome.{Outcome, exits, outcomes, weight}
use Rattle.halo_model.specs.Payment.{by_cause, falls_on, payment}
use Rattle.halo_contract.specs.Premium.{all_lives}
use Rattle.halo_model.specs.Value.{event_value, insurance_value, numerator, ranked_numerator}
use Rattle.halo_model.proofs.DueOnOneLife.{denominator-of-one, one-order}

-- the outcome of one life
abbrev alone : ℕ → ℕ → Outcome
alone k j = Some (record { year = k; cause = j }) ∷ []

-- a sum over the outcomes of one life, by years and causes
by-exits : (x : PlainLife) (f : Outcome → ℕ) → sum_over (outcomes 0 all_lives (x ∷ [])) f
    ≡ sum_over (numbers_from 0 x.years_left) (λ k. sum_over (numbers_from 0 x.causes) (λ j. f (alone k j)))
by-exits x f =
    let years : x.years_left - 0 ≡ x.years_left = omega arith in
    sum_over-flat_map (λ way. (way ∷ []) ∷ []) (map (λ e. Some e) (exits 0 x)) f
    ∙ sum_over-map (λ e. Some e) (exits 0 x) (λ way. f (way ∷ []) + 0)
    ∙ sum_over-flat_map (λ k. map (λ j. record { year = k; cause = j }) (numbers_from 0 x.causes))
    (numbers_from 0 (x.years_left - 0)) (λ e. f (Some e ∷ []) + 0)
    ∙ sum_over-ext (numbers_from 0 (x.years_left - 0)) _ _
    (λ k. sum_over-map (λ j. record { year = k; cause = j }) (numbers_from 0 x.causes) (λ e. f (Some e ∷ []) + 0)
    ∙ sum_over-ext (numbers_from 0 x.causes) _ _ (λ j. omega arith))
    ∙ ap (λ n. sum_over (numbers_from 0 n) (λ k. sum_over (numbers_from 0 x.causes) (λ j. f (alone k j)))) years

-- a life names no terms
no-terms : (ns : List ℕ) → filter (λ n. names_term n (life 0)) ns ≡ []
no-terms [] = refl
no-terms (n ∷ ns) = no-terms ns

-- the life is there just before it leaves, whatever its rank, and not after
itself : (k r : ℕ) → nat_lt k k || (nat_eq k k && nat_le r r) ≡ true
itself k r = grind (arith, nat_tests)

from-start : (k : ℕ) → nat_le 0 k ≡ true
from-start k = grind (arith, nat_tests)

module _ (b : Basis) (pay : PlainPay) (plain : pay.mark ≡ None) (body : pay.body ≡ life 0) (rank : ℕ → ℕ) where
  falls-on-leaving : (k j : ℕ) → falls_on pay rank 0 (alone k j) (leaves 0 (record { year = k; cause = j }))
      ≡ nat_le pay.defer k && asked pay.causes j
  falls-on-leaving k j = rw (plain, body, itself k (rank 0), from-start k) (each pay.causes (nat_le pay.defer k))
    where
      each : (causes : Option ℕ) (late : Bool)
          → late && true && by_cause causes (leaves 0 (record { year = k; cause = j }))
          && (true && not (true && not (nat_eq 0 0))) ≡ late && asked causes j
      each None true = refl
      each None false = refl
      each (Some causes) true = and-true (has_bit causes j)
      each (Some causes) false = refl

  -- the value of the one outcome, times its weight
  abbrev worth : ℕ → ℕ → ℕ
  worth k j = cond (nat_le pay.defer k && asked pay.causes j) (payment pay (k - pay.defer) * discounted b 0 (suc k)) 0

  value-alone : (k j : ℕ) → insurance_value b pay rank 0 (alone k j) ≡ worth k j
  value-alone k j =
      let ends : sum_over (term_ends b.last_time pay.body) (event_value b pay rank 0 (alone k j)) ≡ 0
      = rw (body, no-terms (numbers_from 1 b.last_time)) refl in
      let leaving : event_value b pay rank 0 (alone k j) (leaves 0 (record { year = k; cause = j })) ≡ worth k j
      = ap (λ falls. cond falls (payment pay (k - pay.defer) * discounted b 0 (suc k)) 0) (falls-on-leaving k j) in
      omega (arith, ends, leaving)

  -- the causes of one year
  year-of-causes : (x : PlainLife) (k : ℕ) → sum_over (numbers_from 0 x.causes) (λ j. x.leavers k j * 1 * worth k j)
      ≡ cond (nat_le pay.defer k)
      (payment pay (k - pay.defer) * discounted b 0 (suc k) * leavers_by (asked pay.causes) x k) 0
  year-of-causes x k = each (nat_le pay.defer k)
    where
      paid : ℕ
      paid = payment pay (k - pay.defer) * discounted b 0 (suc k)

      one : (is : Bool) (n : ℕ) → n * 1 * cond is paid 0 ≡ paid * cond is n 0
      one true n = omega arith
      one false n = omega arith

      each : (late : Bool)
          → sum_over (numbers_from 0 x.causes) (λ j. x.leavers k j * 1 * cond (late && asked pay.causes j) paid 0)
          ≡ cond late (paid * leavers_by (asked pay.causes) x k) 0
      each true = sum_over-ext (numbers_from 0 x.causes) _ _ (λ j. one (asked pay.causes j) (x.leavers k j))
          ∙ sum_over-scale (numbers_from 0 x.causes) paid (λ j. cond (asked pay.causes j) (x.leavers k j) 0)
      each false = sum_over-ext (numbers_from 0 x.causes) _ _ (λ j. omega arith)
          ∙ sum_over-none (numbers_from 0 x.causes)

pub insurance-on-one-life : InsuranceOnOneLife
unfolding numerator
insurance-on-one-life b x one pay kind plain body = record { num = num; den = denominator-of-one b x one }
  where
    paid : ℕ → ℕ
    paid k = cond (nat_le pay.defer k)
        (payment pay (k - pay.defer) * discounted b 0 (suc k) * leavers_by (asked pay.causes) x k) 0

    ranked : (rank : ℕ → ℕ) → ranked_numerator b pay rank 0 all_lives ≡ sum_over (numbers_from 0 x.years_left) paid
    ranked rank = rw (one, kind) (by-exits x (λ o. weight (x ∷ []) o * insurance_value b pay rank 0 o)
        ∙ sum_over-ext (numbers_from 0 x.years_left) _ _ (λ k. sum_over-ext
        (numbers_from 0 x.causes) _ _ (λ j. ap (λ n. x.leavers k j * 1 * n) (value-alone b pay plain body rank k j))
        ∙ year-of-causes b pay plain body rank x k))

    num : numerator b pay 0 all_lives ≡ sum_over (numbers_from 0 x.years_left) paid
    num = sum_over-ext (taken b) _ _ (λ order. ranked (rank_in order))
        ∙ sum_over-const (taken b) (sum_over (numbers_from 0 x.years_left) paid)
        ∙ rw (one-order b x one) (omega arith)
