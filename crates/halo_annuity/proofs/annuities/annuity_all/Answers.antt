use Rattle.std.proofs.Common.{◌≡◌, ℕ, suc, ◌+◌, ◌-◌, ◌^◌, ◌≤◌, arith, lit<, subst}
use Rattle.halo_annuity.specs.AtTime.{HoldAt}
use Rattle.halo_compile.specs.NamedSets.{named_of_task}
use Rattle.halo_compile.proofs.Tasks.{few-sets}
use Rattle.halo_annuity.proofs.TaskFacts.{pass-cost}
use Rattle.halo_annuity.proofs.Values.{held-annuity, held-modest}
use Rattle.halo_annuity.proofs.annuities.annuity_all.Goals as goal

pub loop-back-init : goal.loop-back-init
loop-back-init g c = record {
  values = c.at_horizon.ensures.values
      (c.start-start.result + (c.saturating_sub-years.result - 0)) (omega (arith, c.saturating_sub-years.ensures));
  cost = omega arith;
}

pub year_back-requires : goal.year_back-requires
year_back-requires g c =
    let back : ℕ = c.loop-back.back in
    let start : ℕ = c.start-start.result in
    let years : ℕ = c.saturating_sub-years.result in
    let before : back + 1 ≤ years = omega arith in
    let next : start + (years - back) ≡ suc (start + (years - back - 1)) = omega arith in (
      lit< tt,
      (
        lit< tt,
        (
          c.requires.task,
          (
            c.requires.annuity,
            (
              omega (arith, c.saturating_sub-years.ensures),
              subst (λ (t : ℕ). HoldAt c.args.task.now t c.loop-back.work) next c.loop-back.invariant.values,
            ),
          ),
        ),
      ),
    )

pub loop-back-preserved : goal.loop-back-preserved
loop-back-preserved g c =
    let back : ℕ = c.loop-back.back in
    let start : ℕ = c.start-start.result in
    let years : ℕ = c.saturating_sub-years.result in
    let before : back + 1 ≤ years = omega arith in
    let next : start + (years - back - 1) ≡ start + (years - (back + 1)) = omega arith in
    record {
      values = subst (λ (t : ℕ). HoldAt c.args.task.now t c.year_back.new.work) next c.year_back.ensures.values;
      cost = omega (arith, c.year_back.ensures.cost, c.loop-back.invariant.cost);
    }

pub returns-clause-values : goal.returns-clause-values
returns-clause-values g c =
    let there : c.start-start.result + (c.saturating_sub-years.result - c.loop-back.back)
    ≡ c.args.task.now.group.now.start =
    omega (arith, c.loop-back-test.false, c.start-start.ensures.value) in
    subst (λ (t : ℕ). HoldAt c.args.task.now t c.loop-back.work) there c.loop-back.invariant.values

pub returns-clause-totals : goal.returns-clause-totals
returns-clause-totals g c = λ alive named there are.
    let group = c.start-start.ensures.group in
    let at : c.start-start.result + (c.saturating_sub-years.result - c.loop-back.back)
    ≡ c.args.task.now.group.now.start =
    omega (arith, c.loop-back-test.false, c.start-start.ensures.value) in
    held-annuity c.args.task.now c.requires.task group c.args.task.now.group.now.start group.time c.loop-back.work
    (subst (λ (t : ℕ). HoldAt c.args.task.now t c.loop-back.work) at c.loop-back.invariant.values)
    c.requires.annuity c.fractions-fractions.ensures.interest alive named there are

pub returns-clause-modest : goal.returns-clause-modest
returns-clause-modest g c =
    let group = c.start-start.ensures.group in
    let at : c.start-start.result + (c.saturating_sub-years.result - c.loop-back.back)
    ≡ c.args.task.now.group.now.start =
    omega (arith, c.loop-back-test.false, c.start-start.ensures.value) in
    held-modest c.args.task.now c.requires.task group c.args.task.now.group.now.start group.time c.loop-back.work
    (subst (λ (t : ℕ). HoldAt c.args.task.now t c.loop-back.work) at c.loop-back.invariant.values)

pub returns-clause-few : goal.returns-clause-few
returns-clause-few g c = few-sets g.row.N g.row.M c.requires.task.sets c.start-start.ensures.group.few

pub returns-clause-cost : goal.returns-clause-cost
returns-clause-cost g c =
    let task = c.args.task.now in
    let named : ℕ = named_of_task task in
    let few : c.loop-back.back ≤ task.horizon =
    omega (arith, c.saturating_sub-years.ensures, c.loop-back.auto.back-end) in
    omega (arith, c.loop-back.invariant.cost, pass-cost c.loop-back.back task.horizon named (2 ^ named) few)
