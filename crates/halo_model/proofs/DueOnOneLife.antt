-- The annuity-due on one life.
use Rattle.std.proofs.Common.{◌≡◌, ℕ, suc, ◌*◌, ◌-◌, arith, refl, ap, sym, ◌∙◌, List, [], ◌∷◌, length, Bool, true, false, cond, nat_le, None, ℤ, pos, ◌*ℤ◌}
use Rattle.std.proofs.Math.Bool.{and-true}
use Rattle.std.proofs.lemmas.Bool.Decides.{nat_tests}
use Rattle.std.proofs.lemmas.Int.{ints}
use Rattle.halo_sums.specs.Sums.{int_sum_over, numbers_from, sum_over}
use Rattle.halo_sums.specs.Coefficients.{coefficient}
use Rattle.halo_sums.proofs.Integers.{pos_injective, pos_mul}
use Rattle.halo_sums.proofs.IntSums.{int_sum_over-ext, int_sum_over-pos}
use Rattle.halo_status.specs.Tree.{life}
use Rattle.halo_status.specs.Pay.{PlainPay}
use Rattle.halo_model.specs.Life.{AreLives, PlainLife}
use Rattle.halo_model.specs.Order.{orders_taken}
use Rattle.halo_contract.specs.declared.ties.Ties.{Ties}
use Rattle.halo_contract.specs.declared.ties.Ties.TheVariants.{Even, Declared}
use Rattle.halo_model.specs.Basis.{Basis, accumulated, discounted, taken}
use Rattle.halo_model.specs.Coefficient.{form}
use Rattle.halo_model.specs.Payment.{payment}
use Rattle.halo_contract.specs.Premium.{all_lives}
use Rattle.halo_model.specs.Value.{denominator, numerator}
use Rattle.halo_model.specs.OneLife.{DueOnOneLife}
use Rattle.halo_model.specs.Part.{due_part, existing_weight}
use Rattle.halo_model.proofs.Annuities.{due-by-parts}

-- one life has one order
pub one-order : (b : Basis) (x : PlainLife) → b.lives ≡ x ∷ [] → length (taken b) ≡ 1
one-order b x one = rw one (each b.ties)
  where
    each : (ties : Ties) → length (orders_taken ties 1) ≡ 1
    each Declared = refl
    each Even = refl

-- it exists with the weight of its survivors
weight-of-one : (b : Basis) (x : PlainLife) → b.lives ≡ x ∷ [] → (pay : PlainPay) → pay.mark ≡ None → pay.body ≡ life 0
    → (t : ℕ) → existing_weight b pay 0 all_lives t ≡ pos (x.survivors t)
unfolding form coefficient
weight-of-one b x one pay plain body t = rw (one, plain, body) (omega (arith, ints))

due-part : (b : Basis) (x : PlainLife) → b.lives ≡ x ∷ [] → (pay : PlainPay) → pay.mark ≡ None → pay.body ≡ life 0
    → (t : ℕ)
    → due_part b pay 0 all_lives t ≡ pos (cond (nat_le pay.defer t)
    (payment pay (t - pay.defer) * discounted b 0 t * x.survivors t) 0)
due-part b x one pay plain body t =
    rw (from-start t, and-true (nat_le pay.defer t), weight-of-one b x one pay plain body t) (each (nat_le pay.defer t))
  where
    from-start : (t : ℕ) → nat_le 0 t ≡ true
    from-start t = grind (arith, nat_tests)

    each : (pays : Bool)
        → cond pays (pos (payment pay (t - pay.defer) * discounted b 0 t) *ℤ pos (x.survivors t)) (pos 0)
        ≡ pos (cond pays (payment pay (t - pay.defer) * discounted b 0 t * x.survivors t) 0)
    each true = sym (pos_mul (payment pay (t - pay.defer) * discounted b 0 t) (x.survivors t))
    each false = refl

pub denominator-of-one : (b : Basis) (x : PlainLife) → b.lives ≡ x ∷ []
    → denominator b 0 all_lives ≡ x.survivors 0 * accumulated b 0
unfolding denominator
denominator-of-one b x one = rw (one-order b x one, one) (omega arith)

pub due-on-one-life : DueOnOneLife
due-on-one-life b x one rule pay kind plain body = record { num = num; den = denominator-of-one b x one }
  where
    rules : AreLives b.lives
    rules = rw one (rule, tt)

    times : List ℕ
    times = numbers_from 0 (suc b.last_time)

    paid : ℕ → ℕ
    paid t = cond (nat_le pay.defer t) (payment pay (t - pay.defer) * discounted b 0 t * x.survivors t) 0

    num : numerator b pay 0 all_lives ≡ sum_over times paid
    num = pos_injective _ _ (due-by-parts b rules pay kind plain 0 all_lives
        ∙ ap (λ n. pos n *ℤ int_sum_over times (due_part b pay 0 all_lives)) (one-order b x one)
        ∙ ap (λ z. pos 1 *ℤ z) (int_sum_over-ext times _ _ (due-part b x one pay plain body)
        ∙ int_sum_over-pos times paid)
        ∙ unit (pos (sum_over times paid)))
      where
        unit : (z : ℤ) → pos 1 *ℤ z ≡ z
        unit z = omega (arith, ints)
