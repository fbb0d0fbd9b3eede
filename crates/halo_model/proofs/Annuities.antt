-- The value of an annuity, time by time.
use Rattle.std.proofs.Common.{◌≡◌, ℕ, suc, ◌*◌, ◌-◌, ◌≤◌, arith, refl, ap, sym, ◌∙◌, List, length, Bool, true, false, cond, ◌&&◌, nat_lt, nat_le, None, ℤ, pos, ◌*ℤ◌}
use Rattle.std.proofs.Math.Path.{fun_ext}
use Rattle.std.proofs.lemmas.Bool.Decides.{nat_tests}
use Rattle.halo_sums.specs.Sums.{indicator, int_sum_over, numbers_from, sum_over}
use Rattle.halo_sums.proofs.Integers.{pos_mul}
use Rattle.halo_sums.proofs.IntSums.{int_sum_over-ext, int_sum_over-pos}
use Rattle.halo_sums.proofs.Sums.{sum_over-const}
use Rattle.halo_status.specs.Exists.{exists}
use Rattle.halo_status.specs.View.{is_on}
use Rattle.halo_status.specs.Pay.{PlainPay}
use Rattle.halo_status.specs.declared.view.View.{View}
use Rattle.halo_status.specs.declared.view.View.TheVariants.{Due as DueView, Immediate as ImmediateView}
use Rattle.halo_model.specs.Life.{AreLives}
use Rattle.halo_model.specs.Outcome.{Outcome, outcomes, weight}
use Rattle.halo_model.specs.There.{lives_at, there_at}
use Rattle.halo_model.specs.Order.{rank_in}
use Rattle.halo_model.specs.Basis.{Basis, discounted, taken}
use Rattle.halo_model.specs.Payment.{payment}
use Rattle.halo_model.specs.Value.{numerator, value_by_kind}
use Rattle.halo_model.specs.Coefficient.{existence, form, view_of}
use Rattle.halo_model.specs.Expectation.{expected}
use Rattle.halo_model.specs.Part.{existing_weight}
use Rattle.halo_model.specs.PartLaws.{DueByParts, ImmediateByParts}
use Rattle.halo_model.proofs.Expected.{expected-paid, expected-pos, expected-sum}
use Rattle.halo_model.proofs.Falls.{in_set-there_at}
use Rattle.halo_model.proofs.Leaving.{expected-by-coefficients}

module _ (b : Basis) (rule : AreLives b.lives) (pay : PlainPay) (plain : pay.mark ≡ None) (view : View)
    (sees : view_of pay.kind ≡ view) (T : ℕ) (S : ℕ → Bool) where
  existence-is : (t : ℕ) (o : Outcome)
      → indicator (exists (lives_at t o) (is_on view t) pay.body) ≡ existence pay t (there_at (λ i. t) o)
  existence-is t o =
      rw (plain, sees) (ap (λ alive. indicator (exists alive (is_on view t) pay.body))
      (fun_ext (λ i. sym (in_set-there_at (λ i. t) o i))))

  pub exists-weight : (t : ℕ) → T ≤ t
      → expected T S b.lives (λ o. indicator (exists (lives_at t o) (is_on view t) pay.body))
      ≡ existing_weight b pay T S t
  unfolding form
  exists-weight t started =
      int_sum_over-ext (outcomes T S b.lives) _ _ (λ o. ap (λ z. pos (weight b.lives o) *ℤ z) (existence-is t o))
      ∙ expected-by-coefficients (λ i. t) T (λ i. started) S b.lives rule (existence pay t)

  -- payments at some times, each where it is allowed and the body exists
  by-times : (times : List ℕ) (allowed : ℕ → Bool) (paid : ℕ → ℕ) → ((t : ℕ) → allowed t ≡ true → T ≤ t)
      → pos (sum_over (outcomes T S b.lives) (λ o. weight b.lives o * sum_over times
      (λ t. cond (allowed t && exists (lives_at t o) (is_on view t) pay.body) (paid t) 0)))
      ≡ int_sum_over times (λ t. cond (allowed t) (pos (paid t) *ℤ existing_weight b pay T S t) (pos 0))
  by-times times allowed paid from =
      expected-pos T S b.lives (λ o. sum_over times (λ t. cond (allowed t && there t o) (paid t) 0))
      ∙ int_sum_over-ext (outcomes T S b.lives) _ _
      (λ o. ap (λ z. pos (weight b.lives o) *ℤ z)
      (sym (int_sum_over-pos times (λ t. cond (allowed t && there t o) (paid t) 0))))
      ∙ expected-sum T S b.lives times (λ t o. pos (cond (allowed t && there t o) (paid t) 0))
      ∙ int_sum_over-ext times _ _ (λ t. expected-paid T S b.lives (allowed t) (paid t) (there t)
      ∙ where-allowed t (allowed t) refl)
    where
      there : ℕ → Outcome → Bool
      there t o = exists (lives_at t o) (is_on view t) pay.body

      where-allowed : (t : ℕ) (is : Bool) → allowed t ≡ is
          → cond is (pos (paid t) *ℤ expected T S b.lives (λ o. indicator (there t o))) (pos 0)
          ≡ cond is (pos (paid t) *ℤ existing_weight b pay T S t) (pos 0)
      where-allowed t false e = refl
      where-allowed t true e = ap (λ z. pos (paid t) *ℤ z) (exists-weight t (from t e))

both-le : (m n t : ℕ) → (nat_le m t && nat_le n t) ≡ true → n ≤ t
both-le m n t e = grind (arith, nat_tests)

both-lt : (m n t : ℕ) → (nat_lt m t && nat_lt n t) ≡ true → n ≤ t
both-lt m n t e = grind (arith, nat_tests)

-- a value that does not depend on the order is taken once for each
each-order : (b : Basis) (value : ℕ) (part : ℤ) → pos value ≡ part
    → pos (sum_over (taken b) (λ order. value)) ≡ pos (length (taken b)) *ℤ part
each-order b value part e =
    ap pos (sum_over-const (taken b) value) ∙ pos_mul (length (taken b)) value ∙ ap (λ z. pos (length (taken b)) *ℤ z) e

pub due-by-parts : DueByParts
unfolding numerator
due-by-parts b rule pay kind plain T S =
    ap (λ k. pos (sum_over (taken b) (λ order. sum_over (outcomes T S b.lives)
    (λ o. weight b.lives o * value_by_kind k b pay (rank_in order) T o)))) kind
    ∙ each-order b _ _ (by-times b rule pay plain DueView (ap view_of kind) T S (numbers_from 0 (suc b.last_time))
    (λ t. nat_le pay.defer t && nat_le T t) (λ t. payment pay (t - pay.defer) * discounted b T t)
    (both-le pay.defer T))

pub immediate-by-parts : ImmediateByParts
unfolding numerator
immediate-by-parts b rule pay kind plain T S =
    ap (λ k. pos (sum_over (taken b) (λ order. sum_over (outcomes T S b.lives)
    (λ o. weight b.lives o * value_by_kind k b pay (rank_in order) T o)))) kind
    ∙ each-order b _ _ (by-times b rule pay plain ImmediateView (ap view_of kind) T S (numbers_from 1 b.last_time)
    (λ t. nat_lt pay.defer t && nat_lt T t) (λ t. payment pay (t - pay.defer - 1) * discounted b T t)
    (both-lt pay.defer T))
