-- A pay is worth its amount times what it is worth with amount 1.
use Rattle.std.proofs.Common.{◌≡◌, ℕ, suc, ◌-◌, ◌*◌, arith, ◌∙◌, Bool, true, false, cond, List}
use Rattle.halo_sums.specs.Sums.{numbers_from, sum_over}
use Rattle.halo_sums.proofs.Sums.{sum_over-ext, sum_over-scale}
use Rattle.halo_status.specs.Pay.{PlainPay}
use Rattle.halo_status.specs.declared.pay.Kind.{Kind}
use Rattle.halo_status.specs.declared.pay.Kind.TheVariants.{Insurance, Immediate, Due}
use Rattle.halo_model.specs.Basis.{Basis, discounted, taken}
use Rattle.halo_model.specs.Enclosed.{ValuesScale, of_one}
use Rattle.halo_model.specs.Event.{Event, leavings, term_ends, year_of}
use Rattle.halo_model.specs.Order.{rank_in}
use Rattle.halo_model.specs.Outcome.{Outcome, outcomes}
use Rattle.halo_model.specs.Payment.{factor, falls_on, pays_due, pays_immediate}
use Rattle.halo_model.specs.Value.{due_value, event_value, immediate_value, insurance_value, numerator, ranked_numerator, value_by_kind}

cond-times : (pays : Bool) (amount share worth : ℕ)
    → cond pays (amount * share * worth) 0 ≡ amount * cond pays (1 * share * worth) 0
cond-times true amount share worth = omega arith
cond-times false amount share worth = omega arith

-- a sum of which each term is a multiple
pub times-sum : {X : Type 0}
    → (xs : List X) (amount : ℕ) (f g : X → ℕ) → ((x : X) → f x ≡ amount * g x) → sum_over xs f ≡ amount * sum_over xs g
times-sum xs amount f g each = sum_over-ext xs f (λ x. amount * g x) each ∙ sum_over-scale xs amount g

module _ (b : Basis) (pay : PlainPay) where
  due-times : (T : ℕ) (o : Outcome) → due_value b pay T o ≡ pay.amount * due_value b (of_one pay) T o
  due-times T o = times-sum (numbers_from 0 (suc b.last_time)) pay.amount _ _
      (λ t. cond-times (pays_due pay T o t) pay.amount (factor pay.vary (t - pay.defer)) (discounted b T t))

  immediate-times : (T : ℕ) (o : Outcome) → immediate_value b pay T o ≡ pay.amount * immediate_value b (of_one pay) T o
  immediate-times T o = times-sum (numbers_from 1 b.last_time) pay.amount _ _
      (λ t. cond-times (pays_immediate pay T o t) pay.amount (factor pay.vary (t - pay.defer - 1)) (discounted b T t))

  event-times : (rank : ℕ → ℕ) (T : ℕ) (o : Outcome) (event : Event)
      → event_value b pay rank T o event ≡ pay.amount * event_value b (of_one pay) rank T o event
  event-times rank T o event =
      cond-times (falls_on pay rank T o event) pay.amount
      (factor pay.vary (year_of event - pay.defer)) (discounted b T (suc (year_of event)))

  insurance-times : (rank : ℕ → ℕ) (T : ℕ) (o : Outcome)
      → insurance_value b pay rank T o ≡ pay.amount * insurance_value b (of_one pay) rank T o
  insurance-times rank T o =
      let lives = times-sum (leavings 0 o) pay.amount _ _ (event-times rank T o) in
      let terms = times-sum (term_ends b.last_time pay.body) pay.amount _ _ (event-times rank T o) in
      omega (arith, lives, terms)

  kind-times : (kind : Kind) (rank : ℕ → ℕ) (T : ℕ) (o : Outcome)
      → value_by_kind kind b pay rank T o ≡ pay.amount * value_by_kind kind b (of_one pay) rank T o
  kind-times Due rank T o = due-times T o
  kind-times Immediate rank T o = immediate-times T o
  kind-times Insurance rank T o = insurance-times rank T o

  ranked-times : (rank : ℕ → ℕ) (T : ℕ) (S : ℕ → Bool)
      → ranked_numerator b pay rank T S ≡ pay.amount * ranked_numerator b (of_one pay) rank T S
  ranked-times rank T S = times-sum (outcomes T S b.lives) pay.amount _ _
      (λ o. rw (kind-times pay.kind rank T o) (omega arith))

pub values-scale : ValuesScale
unfolding numerator
values-scale b pay T S = times-sum (taken b) pay.amount _ _ (λ order. ranked-times b pay (rank_in order) T S)
