-- The total of what is due for all sets on some events encloses what falls on them.
use Rattle.std.proofs.Common.{◌≡◌, ℕ, ◌*◌, ◌^◌, ◌≤◌, arith, refl, ap, sym, ◌∙◌, subst, length, ℤ}
use Rattle.std.proofs.lemmas.Int.{ints}
use Rattle.halo_sums.specs.Masks.{has_bit}
use Rattle.halo_num.specs.Ends.{Ends, HasWidth}
use Rattle.halo_num.specs.Enclosure.{Encloses}
use Rattle.halo_status.specs.Pay.{PlainPay, pay_of}
use Rattle.halo_status.specs.declared.pay.Kind.TheVariants.{Insurance}
use Rattle.halo_model.specs.Basis.{Basis}
use Rattle.halo_model.specs.Counts.{greatest_factor, measures_of, width_count}
use Rattle.halo_model.specs.OnePayment.{IsBetween}
use Rattle.halo_model.specs.Horizon.{horizon}
use Rattle.halo_model.specs.Value.{denominator}
use Rattle.halo_life.specs.Lists.{Lists}
use Rattle.halo_life.specs.PlainGroup.{IsGroup}
use Rattle.halo_life.specs.Total.{total_of}
use Rattle.halo_compile.specs.NamedSets.{IsNamedPart}
use Rattle.halo_compile.specs.OfTask.{pay_of_task}
use Rattle.halo_compile.specs.ValidTask.{IsTask}
use Rattle.halo_compile.specs.declared.task.Task.{Task}
use Rattle.halo_along.proofs.InsuredWhole.{group-ends}
use Rattle.halo_along.proofs.OneLeaving.{unit-valid}
use Rattle.halo_along.proofs.PartsAlong.{IsPart}
use Rattle.halo_insure.specs.declared.events.Events.{Events}
use Rattle.halo_insure.specs.Events.{AreEventsOf, events_of, worth_on}
use Rattle.halo_insure.specs.OfTask.{HoldDuesOn, insured_basis}
use Rattle.halo_insure.specs.Total.{HoldDues}
use Rattle.halo_insure.proofs.WorthOn.{IsUpTo, up-to, worth-bounded, worth-by-sets}
use Rattle.halo_insure.proofs.Tasks.{are-lives, lives-of-task}
use Rattle.halo_insure.proofs.Total.{total-within-count, worth-enclosed}

module _ {n m : ℕ} (task : Task n m) (is : IsTask task)
    (group : IsGroup n task.group.now) (kind : task.pay.now.kind ≡ Insurance)
    (events : Events) (there : AreEventsOf n events) (t alive : ℕ) where
  abbrev b : Basis
  b = insured_basis task

  abbrev pay : PlainPay
  pay = pay_of_task task

  abbrev part : ℤ
  part = worth_on events b pay t (has_bit alive)

  there-in-basis : AreEventsOf (length b.lives) events
  there-in-basis = subst (λ (k : ℕ). AreEventsOf k events) (sym (lives-of-task task group)) there

  part-number : (most : ℕ)
      → most ≡ greatest_factor task.pay.now.vary task.horizon → IsUpTo (most * denominator b t (has_bit alive)) part
  part-number most e =
      let same : greatest_factor task.pay.now.vary (horizon b.lives pay.body) ≡ most =
      ap (greatest_factor task.pay.now.vary) (sym is.horizon_is) ∙ sym e in
      up-to (most * denominator b t (has_bit alive)) part
      (subst (λ (k : ℕ). IsBetween 0 (k * denominator b t (has_bit alive)) part) same
      (worth-bounded b (are-lives task group) (group-ends n task.group.now group) (omega arith)
      pay (unit-valid (pay_of task.pay.now) is.valid kind) t refl events there-in-basis (has_bit alive)))

  pub total-is : (named : ℕ) → IsNamedPart pay.body alive named
      → (lists : Lists) (i : Ends) (most : ℕ) → HoldDuesOn task (events_of events) t lists
      → i.lo ≡ (total_of lists m named).lo → i.hi ≡ (total_of lists m named).hi
      → most ≡ greatest_factor task.pay.now.vary task.horizon → IsPart b pay t (has_bit alive) most part i
  total-is named are lists i most held lo hi e =
      let count = lives-of-task task group in
      let valid = unit-valid (pay_of task.pay.now) is.valid kind in
      let in_time : horizon b.lives pay.body ≤ b.last_time = rw (← is.horizon_is) is.horizon_in in
      let dues = subst (λ (k : ℕ). HoldDues b pay (events_of events) k t lists) (sym count) held in
      let sets : 2 ^ length b.lives ≡ m = ap (λ (k : ℕ). 2 ^ k) count ∙ sym is.sets in
      let by_sets = worth-by-sets b (are-lives task group) (group-ends n task.group.now group)
      (omega arith) pay valid t events there-in-basis alive in
      let encloses = subst (λ (k : ℕ). Encloses (total_of lists k named) part (denominator b t (has_bit alive))) sets
      (worth-enclosed b (are-lives task group) pay valid in_time (events_of events) t lists dues alive named are
      part by_sets) in
      let narrow = subst (λ (k : ℕ). HasWidth (total_of lists k named) (width_count (measures_of b pay))) sets
      (total-within-count b (are-lives task group) pay valid in_time (events_of events) t lists dues alive named are
      refl) in
      let up = part-number most e in
      let number = (rw up.is at encloses) in
      record {
        number = up.number;
        is = up.is;
        bound = up.bound;
        encloses = record { low = rw lo number.low; high = rw hi number.high };
        narrow = record { near = omega (arith, ints, lo, hi, narrow.near) };
      }
