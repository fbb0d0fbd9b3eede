-- The values of all sets of lives at a time of a task: the totals of the named ones enclose the annuity.
use Rattle.std.proofs.Common.{◌≡◌, ◌<◌, ◌≢◌, ℕ, suc, ◌-◌, ◌^◌, ◌≤◌, length, pos, arith, refl, sym, subst, ◌∙◌}
use Rattle.halo_sums.specs.Masks.{has_bit}
use Rattle.halo_num.specs.Ends.{Ends, HasWidth}
use Rattle.halo_num.specs.Enclosure.{Encloses}
use Rattle.halo_interest.specs.Rates.{IsInterest}
use Rattle.halo_status.specs.Pay.{pay_of}
use Rattle.halo_status.specs.declared.pay.Kind.TheVariants.{Insurance}
use Rattle.halo_model.specs.Counts.{measures_of, width_count}
use Rattle.halo_model.specs.FromTables.{lives_of}
use Rattle.halo_contract.specs.declared.ties.Ties.{Ties}
use Rattle.halo_contract.specs.declared.ties.Ties.TheVariants.{Declared}
use Rattle.halo_model.specs.Segment.{last_time_of_form}
use Rattle.halo_model.specs.Value.{denominator, numerator}
use Rattle.halo_life.specs.Lists.{Lists}
use Rattle.halo_life.specs.PlainGroup.{IsGroup}
use Rattle.halo_life.specs.Total.{AreModestAt, total_of}
use Rattle.halo_compile.specs.NamedSets.{AreNamed, IsNamedPart}
use Rattle.halo_compile.specs.ValidTask.{IsTask}
use Rattle.halo_compile.specs.declared.task.Task.{Task}
use Rattle.halo_compile.specs.OfTask.{HaveSurvivorsAt, basis_of_task, pay_of_task}
use Rattle.halo_along.proofs.Counting.{no-mark, some-nodes}
use Rattle.halo_annuity.specs.AtTime.{EnclosesAnnuity, HoldAt}
use Rattle.halo_annuity.specs.OfTask.{last_of_task}
use Rattle.halo_annuity.proofs.Modest.{values-modest}
use Rattle.halo_compile.proofs.Tasks.{count-lives, group-lives, interest-there, survivors-there}
use Rattle.halo_annuity.proofs.TaskFacts.{last-in, modest-sets, positive-ranks, some-years}
use Rattle.halo_annuity.proofs.Totals.{total-encloses, total-narrow}

-- an interval with the same ends encloses the same
pub same-annuity : {n m : ℕ} (task : Task n m) (t alive : ℕ) (i j : Ends) → i.lo ≡ j.lo → i.hi ≡ j.hi
    → EnclosesAnnuity task t alive j → EnclosesAnnuity task t alive i
same-annuity task t alive i j lo hi is = record {
  encloses = λ ties. let e = is.encloses ties in record { low = rw lo e.low; high = rw hi e.high };
  narrow = λ ties. let w = is.narrow ties in record { near = rw (lo, hi) w.near };
}

module _ {n m : ℕ} (task : Task n m) (is : IsTask task) (group : IsGroup n task.group.now) (t : ℕ) (in_time : t ≤ 200)
    (lists : Lists) (held : HoldAt task t lists) where
  -- they are small numbers
  pub held-modest : (mask : ℕ) → mask < m → AreNamed (pay_of task.pay.now).body mask → AreModestAt mask lists
  held-modest = modest-sets m n (pay_of task.pay.now).body lists is.sets
      (values-modest (basis_of_task task Declared) (pay_of_task task) refl is.valid.vary t n group.few lists t
      (suc (last_of_task task) - t)
      (omega (arith, last-in task.pay.now.kind task.horizon, is.horizon_in, in_time)) (held Declared))

  -- and the total over those of the living is the value of the annuity
  pub held-annuity : task.pay.now.kind ≢ Insurance → IsInterest task.interest.now
      → (alive part : ℕ) → HaveSurvivorsAt task t alive → IsNamedPart (pay_of task.pay.now).body alive part
      → EnclosesAnnuity task t alive (total_of lists m part)
  held-annuity annual interest alive part there are =
      subst (λ (k : ℕ). EnclosesAnnuity task t alive (total_of lists k part)) (sym is.sets)
      (record { encloses = encloses; narrow = narrow })
    where
      count : length (lives_of task.group.now.file task.group.now.lives) ≡ n
      count = count-lives task.group.now ∙ group.count

      last : last_time_of_form task.pay.now.kind task.horizon ≤ 200
      last = omega (arith, last-in task.pay.now.kind task.horizon, is.horizon_in)

      encloses : (ties : Ties) →
          Encloses (total_of lists (2 ^ n) part)
          (pos (numerator (basis_of_task task ties) (pay_of_task task) t (has_bit alive)))
          (denominator (basis_of_task task ties) t (has_bit alive))
      encloses ties =
          total-encloses (basis_of_task task ties) (group-lives n task.group.now group) (pay_of_task task) annual
          (no-mark (pay_of task.pay.now) is.valid annual) is.valid.lists (positive-ranks (pay_of task.pay.now) is.valid)
          t n alive part are lists count in_time (rw is.horizon_is at last) (rw is.horizon_is at (held ties))
          (survivors-there task group t alive there) (interest-there task interest t)

      narrow : (ties : Ties) →
          HasWidth
          (total_of lists (2 ^ n) part) (width_count (measures_of (basis_of_task task ties) (pay_of_task task)))
      narrow ties =
          total-narrow (basis_of_task task ties) (pay_of_task task) annual
          (no-mark (pay_of task.pay.now) is.valid annual) refl (some-nodes (pay_of task.pay.now).body)
          (some-years (lives_of task.group.now.file task.group.now.lives) (pay_of task.pay.now).body)
          t n alive part are lists count group.few (rw is.horizon_is at (held ties))
