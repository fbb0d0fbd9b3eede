-- An insurance of 1 is worth from nothing to its greatest factor, where somebody of each life alive survives.
use Rattle.std.proofs.Common.{◌≡◌, ℕ, ◌<◌, refl, ap, sym, ◌∙◌, length, ◌^◌, subst}
use Rattle.std.proofs.Math.Nat.{mul-pos}
use Rattle.halo_sums.specs.Masks.{has_bit}
use Rattle.halo_interest.specs.Rates.{IsInterest}
use Rattle.halo_status.specs.declared.pay.Kind.TheVariants.{Insurance}
use Rattle.halo_model.specs.Counts.{greatest_factor, measures_of, most_worth}
use Rattle.halo_model.specs.Value.{denominator}
use Rattle.halo_model.proofs.Positive.{some-orders}
use Rattle.halo_model.specs.SetValue.{all_events}
use Rattle.halo_life.specs.Lists.{Lists}
use Rattle.halo_life.specs.PlainGroup.{IsGroup}
use Rattle.halo_life.specs.Total.{total_of}
use Rattle.halo_compile.proofs.Tasks.{interest-there, survivors-there}
use Rattle.halo_compile.specs.ValidTask.{IsTask}
use Rattle.halo_compile.specs.declared.task.Task.{Task}
use Rattle.halo_status.specs.Pay.{pay_of}
use Rattle.halo_compile.specs.NamedSets.{IsNamedPart}
use Rattle.halo_compile.specs.OfTask.{HaveSurvivorsAt, pay_of_task}
use Rattle.halo_along.proofs.InsuredWhole.{group-ends, most-is}
use Rattle.halo_along.proofs.OneLeaving.{unit-valid}
use Rattle.halo_insure.specs.OfTask.{HoldDuesAt, insured_basis}
use Rattle.halo_insure.specs.Total.{EnclosesInsurance, HoldDues}
use Rattle.halo_insure.proofs.Tasks.{are-lives, lives-of-task}
use Rattle.halo_insure.proofs.Total.{sets-enclose-value}

pub some-denominator : {n m : ℕ} (task : Task n m) → IsGroup n task.group.now → IsInterest task.interest.now
    → (t alive : ℕ) → HaveSurvivorsAt task t alive → 0 < denominator (insured_basis task) t (has_bit alive)
unfolding denominator
some-denominator task group interest t alive there =
    mul-pos (some-orders task.group.now.ties (length (insured_basis task).lives))
    (mul-pos (survivors-there task group t alive there) (interest-there task interest t))

module _ {n m : ℕ}
    (task : Task n m) (is : IsTask task) (group : IsGroup n task.group.now) (kind : task.pay.now.kind ≡ Insurance) where
  -- the total of what is due for all sets encloses the value
  pub total-encloses : (t alive named : ℕ) → IsNamedPart (pay_of task.pay.now).body alive named → (lists : Lists)
      → HoldDuesAt task t lists
      → EnclosesInsurance (insured_basis task) (pay_of_task task) t alive (total_of lists m named)
  total-encloses t alive named are lists held =
      let b = insured_basis task in
      let count = lives-of-task task group in
      let all = sets-enclose-value b (are-lives task group) (group-ends n task.group.now group)
      (pay_of_task task) (unit-valid (pay_of task.pay.now) is.valid kind) refl
      (rw (← is.horizon_is) is.horizon_in) t lists
      (subst (λ (k : ℕ). HoldDues b (pay_of_task task) all_events k t lists) (sym count) held) alive named are in
      subst (λ (k : ℕ). EnclosesInsurance b (pay_of_task task) t alive (total_of lists k named))
      (ap (λ (k : ℕ). 2 ^ k) count ∙ sym is.sets) all

  pub most-of-task : (most : ℕ) → most ≡ greatest_factor task.pay.now.vary task.horizon
      → most ≡ most_worth task.pay.now.kind (measures_of (insured_basis task) (pay_of_task task))
  most-of-task most e = e ∙ ap (greatest_factor task.pay.now.vary) is.horizon_is
      ∙ sym (most-is task.pay.now.kind kind (measures_of (insured_basis task) (pay_of_task task)))
