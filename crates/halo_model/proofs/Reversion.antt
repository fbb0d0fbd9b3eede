-- What is paid on w after u, and on both, is what is paid on w.
use Rattle.std.proofs.Common.{◌≡◌, ◌≢◌, ℕ, suc, ◌+◌, ◌*◌, ◌-◌, arith, refl, sym, ◌∙◌, List, Bool, true, false, cond, not, ◌&&◌, nat_le, nat_lt}
use Rattle.halo_sums.specs.Sums.{numbers_from, sum_over}
use Rattle.halo_sums.proofs.Sums.{sum_over-add, sum_over-ext}
use Rattle.halo_status.specs.Tree.{Tree, after, joint, more, none}
use Rattle.halo_status.specs.Exists.{exists}
use Rattle.halo_status.specs.Pay.{PlainPay}
use Rattle.halo_status.specs.declared.pay.Kind.{Kind}
use Rattle.halo_status.specs.declared.pay.Kind.TheVariants.{Insurance, Due, Immediate}
use Rattle.halo_status.specs.View.{is_on}
use Rattle.halo_status.specs.declared.view.View.TheVariants.{Due as DueView, Immediate as ImmediateView}
use Rattle.halo_model.specs.There.{lives_at}
use Rattle.halo_model.specs.Payment.{payment}
use Rattle.halo_model.specs.Outcome.{Outcome, outcomes, weight}
use Rattle.halo_model.specs.Order.{rank_in}
use Rattle.halo_model.specs.Basis.{Basis, discounted, taken}
use Rattle.halo_model.specs.Value.{numerator, ranked_numerator, value_by_kind}
use Rattle.halo_model.specs.PartLaws.{ReversionAddsUp}

-- at one time, with u and w existing or not
at-one-time : (allowed u w : Bool) (c : ℕ)
    → cond (allowed && (w && not u)) c 0 + cond (allowed && (u && (w && true))) c 0 ≡ cond (allowed && w) c 0
at-one-time false u w c = omega arith
at-one-time true true true c = omega arith
at-one-time true true false c = omega arith
at-one-time true false true c = omega arith
at-one-time true false false c = omega arith

at-times : (times : List ℕ) (allowed u w : ℕ → Bool) (paid : ℕ → ℕ)
    → sum_over times (λ t. cond (allowed t && (w t && not (u t))) (paid t) 0) + sum_over times
    (λ t. cond (allowed t && (u t && (w t && true))) (paid t) 0)
    ≡ sum_over times (λ t. cond (allowed t && w t) (paid t) 0)
at-times times allowed u w paid =
    sym (sum_over-add times _ _) ∙ sum_over-ext times _ _ (λ t. at-one-time (allowed t) (u t) (w t) (paid t))

module _ (b : Basis) (pay : PlainPay) (u w : Tree) (T : ℕ) (S : ℕ → Bool) where
  abbrev on : Tree → PlainPay
  on body = record pay { body = body }

  on-outcome : (kind : Kind) → kind ≢ Insurance → (rank : ℕ → ℕ) (o : Outcome)
      → value_by_kind kind b (on (after u w)) rank T o + value_by_kind kind b (on (joint (more u (more w none)))) rank T
      o ≡ value_by_kind kind b (on w) rank T o
  on-outcome Insurance annuity rank o = absurd (annuity refl)
  on-outcome Due annuity rank o =
      at-times (numbers_from 0 (suc b.last_time)) (λ t. nat_le pay.defer t && nat_le T t)
      (λ t. exists (lives_at t o) (is_on DueView t) u) (λ t. exists (lives_at t o) (is_on DueView t) w)
      (λ t. payment pay (t - pay.defer) * discounted b T t)
  on-outcome Immediate annuity rank o =
      at-times (numbers_from 1 b.last_time) (λ t. nat_lt pay.defer t && nat_lt T t)
      (λ t. exists (lives_at t o) (is_on ImmediateView t) u) (λ t. exists (lives_at t o) (is_on ImmediateView t) w)
      (λ t. payment pay (t - pay.defer - 1) * discounted b T t)

  in-order : pay.kind ≢ Insurance → (rank : ℕ → ℕ)
      → ranked_numerator b (on (after u w)) rank T S + ranked_numerator b (on (joint (more u (more w none)))) rank T S
      ≡ ranked_numerator b (on w) rank T S
  in-order annuity rank = sym (sum_over-add (outcomes T S b.lives) _ _)
      ∙ sum_over-ext (outcomes T S b.lives) _ _
      (λ o. factored (weight b.lives o) _ _ _ (on-outcome pay.kind annuity rank o))
    where
      factored : (weight first second both : ℕ) → first + second ≡ both
          → weight * first + weight * second ≡ weight * both
      factored weight first second both e = rw (← e) (omega arith)

pub reversion-adds-up : ReversionAddsUp
unfolding numerator
reversion-adds-up b pay annuity u w T S = sym (sum_over-add (taken b) _ _)
    ∙ sum_over-ext (taken b) _ _ (λ order. in-order b pay u w T S annuity (rank_in order))
