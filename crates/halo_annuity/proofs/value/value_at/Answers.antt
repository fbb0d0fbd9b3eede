use Rattle.std.proofs.Common.{◌≡◌, ℕ, ◌*◌, arith, ap, lit<, sym, ◌∙◌}
use Rattle.std.proofs.lemmas.Int.{ints}
use Rattle.halo_sums.specs.Masks.{has_bit}
use Rattle.halo_num.specs.Ends.{fine}
use Rattle.halo_model.specs.Counts.{measures_of, most_worth}
use Rattle.halo_contract.specs.declared.ties.Ties.TheVariants.{Declared}
use Rattle.halo_model.specs.Value.{denominator, numerator}
use Rattle.halo_life.specs.Total.{total_of}
use Rattle.std.specs.Prelude.{bit_and}
use Rattle.halo_status.specs.Pay.{pay_of}
use Rattle.halo_compile.proofs.NamedSets.{modest-within, named-part, part-is-named, set-below}
use Rattle.halo_compile.specs.OfTask.{basis_of_task, pay_of_task}
use Rattle.halo_compile.proofs.Clamped.{meets-above, meets-below}
use Rattle.halo_annuity.proofs.TaskBounds.{most-of-task, some-denominator, value-above, value-below}
use Rattle.halo_compile.proofs.Tasks.{few-sets}
use Rattle.halo_annuity.proofs.Values.{held-annuity, held-modest, same-annuity}
use Rattle.halo_annuity.proofs.value.value_at.Goals as goal

pub total-total-requires : goal.total-total-requires
total-total-requires g c =
    let r = c.requires in
    let task = c.args.task.now in
    let body = (pay_of task.pay.now).body in
    let set : ℕ = bit_and c.args.alive c.lives.result in
    let named = part-is-named body c.args.alive set (named-part c.lives.result body c.lives.ensures c.args.alive) in
    let group = c.start-start.ensures.group in (
      lit< tt,
      (
        few-sets g.row.N g.row.M r.task.sets group.few,
        (
          set-below task r.task set named,
          modest-within task r.task set named c.args.work.now
              (held-modest task r.task group c.args.t r.time c.args.work.now r.values),
        ),
      ),
    )

pub between-requires-clause-meets_most : goal.between-requires-clause-meets_most
between-requires-clause-meets_most g c =
    let r = c.requires in
    let task = c.args.task.now in
    let group = c.start-start.ensures.group in
    let interest = c.fractions-fractions.ensures.interest in
    let b = basis_of_task task Declared in
    let part : ℕ = bit_and c.args.alive c.lives.result in
    let are = named-part c.lives.result (pay_of task.pay.now).body c.lives.ensures c.args.alive in
    let held =
    same-annuity task c.args.t c.args.alive c.total-total.result (total_of c.args.work.now g.row.M part)
    c.total-total.ensures.lo c.total-total.ensures.hi
    (held-annuity task r.task group c.args.t r.time c.args.work.now r.values r.annuity interest
    c.args.alive part r.alive are) in
    meets-above c.total-total.result (numerator b (pay_of_task task) c.args.t (has_bit c.args.alive))
    (denominator b c.args.t (has_bit c.args.alive)) c.most_of_annuity.result
    (some-denominator task group interest c.args.t c.args.alive r.alive) (held.encloses Declared)
    (value-above task r.task group r.annuity Declared c.args.t r.time c.args.alive c.most_of_annuity.result
    c.most_of_annuity.ensures.value)

pub between-requires-clause-meets_least : goal.between-requires-clause-meets_least
between-requires-clause-meets_least g c =
    let r = c.requires in
    let task = c.args.task.now in
    let group = c.start-start.ensures.group in
    let interest = c.fractions-fractions.ensures.interest in
    let b = basis_of_task task Declared in
    let part : ℕ = bit_and c.args.alive c.lives.result in
    let are = named-part c.lives.result (pay_of task.pay.now).body c.lives.ensures c.args.alive in
    let held =
    same-annuity task c.args.t c.args.alive c.total-total.result (total_of c.args.work.now g.row.M part)
    c.total-total.ensures.lo c.total-total.ensures.hi
    (held-annuity task r.task group c.args.t r.time c.args.work.now r.values r.annuity interest
    c.args.alive part r.alive are) in
    meets-below c.total-total.result (numerator b (pay_of_task task) c.args.t (has_bit c.args.alive))
    (denominator b c.args.t (has_bit c.args.alive)) c.least_of_annuity-least.result
    (some-denominator task group interest c.args.t c.args.alive r.alive) (held.encloses Declared)
    (value-below task r.task group r.annuity Declared c.args.t r.time c.args.alive c.least_of_annuity-least.result
    c.least_of_annuity-least.ensures.one)

pub returns-clause-encloses : goal.returns-clause-encloses
returns-clause-encloses g c =
    let r = c.requires in
    let task = c.args.task.now in
    let group = c.start-start.ensures.group in
    let part : ℕ = bit_and c.args.alive c.lives.result in
    let are = named-part c.lives.result (pay_of task.pay.now).body c.lives.ensures c.args.alive in
    let held =
    same-annuity task c.args.t c.args.alive c.total-total.result (total_of c.args.work.now g.row.M part)
    c.total-total.ensures.lo c.total-total.ensures.hi
    (held-annuity task r.task group c.args.t r.time c.args.work.now r.values r.annuity
    c.fractions-fractions.ensures.interest c.args.alive part r.alive are) in
    record {
      encloses = λ ties.
          c.between.ensures.encloses
          (numerator (basis_of_task task ties) (pay_of_task task) c.args.t (has_bit c.args.alive))
          (denominator (basis_of_task task ties) c.args.t (has_bit c.args.alive))
          (value-above task r.task group r.annuity ties c.args.t r.time c.args.alive c.most_of_annuity.result
          c.most_of_annuity.ensures.value)
          (value-below task r.task group r.annuity ties c.args.t r.time c.args.alive c.least_of_annuity-least.result
          c.least_of_annuity-least.ensures.one)
          (held.encloses ties);
      narrow = λ ties. c.between.ensures.narrow _ (held.narrow ties);
    }

pub returns-clause-within : goal.returns-clause-within
returns-clause-within g c = λ ties.
    let task = c.args.task.now in
    let most : c.most_of_annuity.result
    ≡ most_worth task.pay.now.kind (measures_of (basis_of_task task ties) (pay_of_task task)) =
    c.most_of_annuity.ensures.value
    ∙ sym (most-of-task task c.requires.task c.start-start.ensures.group c.requires.annuity ties) in
    let high = ap (λ (n : ℕ). n * fine) most in
    record {
      low = omega (arith, ints, c.between.ensures.within.low);
      high = omega (arith, ints, c.between.ensures.within.high, high);
    }
