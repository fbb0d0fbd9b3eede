-- The bounds of a task's value.
use Rattle.std.proofs.Common.{◌≡◌, ◌≢◌, ◌⊎◌, ℕ, ◌+◌, ◌*◌, ◌<◌, ◌≤◌, arith, refl, ap, sym, ◌∙◌, ⊎_elim}
use Rattle.halo_sums.specs.Masks.{has_bit}
use Rattle.halo_interest.specs.Rates.{IsInterest}
use Rattle.halo_status.specs.Pay.{pay_of}
use Rattle.halo_status.specs.declared.pay.Kind.TheVariants.{Insurance}
use Rattle.halo_model.specs.Basis.{Basis}
use Rattle.halo_model.specs.Counts.{greatest_factor, measures_of, most_worth}
use Rattle.halo_contract.specs.declared.ties.Ties.{Ties}
use Rattle.halo_contract.specs.declared.ties.Ties.TheVariants.{Declared}
use Rattle.halo_model.specs.Value.{denominator, numerator}
use Rattle.halo_model.proofs.AnnuityBounds.{annuity-is-bounded, due-is-worth-one}
use Rattle.halo_life.specs.PlainGroup.{IsGroup}
use Rattle.halo_compile.specs.ValidTask.{IsTask}
use Rattle.halo_compile.specs.declared.task.Task.{Task}
use Rattle.halo_compile.specs.OfTask.{HaveSurvivorsAt, basis_of_task, pay_of_task}
use Rattle.halo_along.specs.AtOnce.{PaysAtOnce}
use Rattle.halo_along.proofs.Counting.{no-mark}
use Rattle.halo_along.proofs.Whole.{most-is}
use Rattle.halo_annuity.proofs.Carried.{positive-both}
use Rattle.halo_compile.proofs.Tasks.{count-lives, group-lives, interest-there, survivors-there}
use Rattle.halo_annuity.proofs.TaskFacts.{positive-ranks}

module _ {n m : ℕ} (task : Task n m) (is : IsTask task) (group : IsGroup n task.group.now)
    (annual : task.pay.now.kind ≢ Insurance) (ties : Ties) where
  abbrev b : Basis
  b = basis_of_task task ties

  pub most-of-task : most_worth task.pay.now.kind (measures_of b (pay_of_task task))
      ≡ greatest_factor task.pay.now.vary task.horizon * (task.horizon + 1)
  most-of-task = most-is task.pay.now.kind annual (measures_of b (pay_of_task task))
      ∙ ap (λ (h : ℕ). greatest_factor task.pay.now.vary h * (h + 1)) (sym is.horizon_is)

  module _ (t : ℕ) (in_time : t ≤ 200) (alive : ℕ) where
    pub value-above : (most : ℕ) → most ≡ greatest_factor task.pay.now.vary task.horizon * (task.horizon + 1)
        → numerator b (pay_of_task task) t (has_bit alive) ≤ most * denominator b t (has_bit alive)
    value-above most e = rw (e, ← most-of-task)
        (annuity-is-bounded b (group-lives n task.group.now group) (pay_of_task task) annual
        (no-mark (pay_of task.pay.now) is.valid annual) refl is.valid.lists
        (positive-ranks (pay_of task.pay.now) is.valid) t in_time (has_bit alive))

    pub value-below : (least : ℕ) → ((least ≡ 1) × PaysAtOnce task.pay.now t alive) ⊎ (least ≡ 0)
        → least * denominator b t (has_bit alive) ≤ numerator b (pay_of_task task) t (has_bit alive)
    value-below least either = ⊎_elim
        (λ (one : (least ≡ 1) × PaysAtOnce task.pay.now t alive).
        let now = one.1 in
        let d = due-is-worth-one b (group-lives n task.group.now group) (pay_of_task task) now.due
        (no-mark (pay_of task.pay.now) is.valid annual) refl now.level now.at_once
        (λ i named. omega (arith, is.lives i named, count-lives task.group.now, group.count))
        t in_time (has_bit alive) now.exists_then in
        rw one.0 (omega (arith, d)))
        (λ (none : least ≡ 0). rw none (omega arith))
        either

-- with one order of the lives there is a denominator where each life of a set has survivors
pub some-denominator : {n m : ℕ} (task : Task n m) → IsGroup n task.group.now → IsInterest task.interest.now
    → (t alive : ℕ)
    → HaveSurvivorsAt task t alive → 0 < denominator (basis_of_task task Declared) t (has_bit alive)
unfolding denominator
some-denominator {n} {m} task group interest t alive there = positive-both 1 _ (omega arith) (positive-both _ _
    (survivors-there task group t alive there)
    (interest-there task interest t))
