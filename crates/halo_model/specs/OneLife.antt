-- Values on one life, as the books write them.
use Rattle.std.specs.Prelude.{◌≡◌, suc, ◌-◌, ◌*◌, cond, nat_le, [], ◌∷◌, None}
use Rattle.halo_sums.specs.Sums.{numbers_from, sum_over}
use Rattle.halo_status.specs.Tree.{life}
use Rattle.halo_status.specs.Pay.{PlainPay}
use Rattle.halo_status.specs.declared.pay.Kind.TheVariants.{Due, Insurance}
use Rattle.halo_model.specs.Life.{IsLife, PlainLife, leavers_by}
use Rattle.halo_model.specs.Basis.{Basis, accumulated, discounted}
use Rattle.halo_model.specs.Chance.{asked}
use Rattle.halo_model.specs.Payment.{payment}
use Rattle.halo_contract.specs.Premium.{all_lives}
use Rattle.halo_model.specs.Value.{denominator, numerator}

-- The annuity-due on the one life x of a contract: the sum over the times of the payment,
-- discounted, times the survivors, over the survivors at the start.
-- ä_x = Σ_t v^t · l_(x+t) / l_x
pub record IsDueOnOneLife (b : Basis) (x : PlainLife) (pay : PlainPay) : Type 0 where
  pub num : numerator b pay 0 all_lives
      ≡ sum_over (numbers_from 0 (suc b.last_time)) (λ t. cond
      (nat_le pay.defer t) (payment pay (t - pay.defer) * discounted b 0 t * x.survivors t) 0)
  pub den : denominator b 0 all_lives ≡ x.survivors 0 * accumulated b 0

abbrev pub DueOnOneLife : Type 0
DueOnOneLife = (b : Basis) (x : PlainLife) → b.lives ≡ x ∷ [] → IsLife x
    → (pay : PlainPay)
    → pay.kind ≡ Due → pay.mark ≡ None → pay.body ≡ life 0 → IsDueOnOneLife b x pay

-- The insurance on the one life x of a contract: the sum over the years of its table of the payment
-- at the end of the year, discounted, times those who leave in the year by the causes that it asks
-- for, over the survivors at the start.
-- A_x = Σ_k v^(k+1) · d_(x+k) / l_x
pub record IsInsuranceOnOneLife (b : Basis) (x : PlainLife) (pay : PlainPay) : Type 0 where
  pub num : numerator b pay 0 all_lives
      ≡ sum_over (numbers_from 0 x.years_left) (λ k. cond (nat_le pay.defer k) (payment pay
      (k - pay.defer) * discounted b 0 (suc k) * leavers_by (asked pay.causes) x k) 0)
  pub den : denominator b 0 all_lives ≡ x.survivors 0 * accumulated b 0

abbrev pub InsuranceOnOneLife : Type 0
InsuranceOnOneLife = (b : Basis) (x : PlainLife) → b.lives ≡ x ∷ []
    → (pay : PlainPay)
    → pay.kind ≡ Insurance → pay.mark ≡ None → pay.body ≡ life 0 → IsInsuranceOnOneLife b x pay
