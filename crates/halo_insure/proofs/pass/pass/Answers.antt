use Rattle.std.proofs.Common.{◌≡◌, ℕ, suc, ◌+◌, ◌-◌, ◌≤◌, arith, lit<, refl, subst}
use Rattle.halo_model.specs.SetValue.{all_events}
use Rattle.halo_compile.specs.NamedSets.{named_of_task}
use Rattle.halo_compile.specs.OfTask.{pay_of_task}
use Rattle.halo_insure.specs.Events.{events_of}
use Rattle.halo_insure.specs.OfTask.{HoldDuesOn, insured_basis}
use Rattle.halo_insure.proofs.Passes.{any-events, pass-cost}
use Rattle.halo_insure.proofs.Small.{dues-modest}
use Rattle.halo_insure.proofs.pass.pass.Goals as goal

pub loop-back-init : goal.loop-back-init
loop-back-init g c =
    let task = c.args.task.now in
    let time : ℕ = c.start-start.result + (c.saturating_sub-years.result - 0) in
    let past : task.horizon ≤ time = omega (arith, c.saturating_sub-years.ensures) in
    record {
      values = any-events (insured_basis task) (pay_of_task task) all_events (events_of c.args.events) g.row.N time
          c.at_horizon.new.work (rw (← c.requires.task.horizon_is) past) (c.at_horizon.ensures.values time past);
      cost = omega arith;
    }

pub carry_back-requires : goal.carry_back-requires
carry_back-requires g c =
    let task = c.args.task.now in
    let is = c.requires.task in
    let back : ℕ = c.loop-back.back in
    let start : ℕ = c.start-start.result in
    let years : ℕ = c.saturating_sub-years.result in
    let before : back + 1 ≤ years = omega arith in (
      lit< tt,
      (
        lit< tt,
        (
          is,
          (
            c.requires.insurance,
            (
              omega (arith, c.saturating_sub-years.ensures),
              λ set below named. dues-modest (insured_basis task) (pay_of_task task) refl is.valid.vary
                  (rw (← is.horizon_is) is.horizon_in) (events_of c.args.events) g.row.N
                  c.start-start.ensures.group.few (start + (years - back)) c.loop-back.work
                  c.loop-back.invariant.values set (omega (arith, below, is.sets)) named,
            ),
          ),
        ),
      ),
    )

pub loop-back-preserved : goal.loop-back-preserved
loop-back-preserved g c =
    let task = c.args.task.now in
    let back : ℕ = c.loop-back.back in
    let start : ℕ = c.start-start.result in
    let years : ℕ = c.saturating_sub-years.result in
    let before : back + 1 ≤ years = omega arith in
    let year : start + (years - back) ≡ suc (start + (years - back - 1)) = omega arith in
    let next : start + (years - back - 1) ≡ start + (years - (back + 1)) = omega arith in
    let ends = c.end_counts-ends.ensures in
    let one : start + (years - back - 1) + 1 ≡ suc (start + (years - back - 1)) = omega arith in
    record {
      values = subst (λ (t : ℕ). HoldDuesOn task (events_of c.args.events) t c.carry_back.new.work) next
          (c.carry_back.ensures.values (events_of c.args.events) c.counted_lives-counted.ensures (rw one at ends)
          (subst (λ (t : ℕ). HoldDuesOn task (events_of c.args.events) t c.loop-back.work) year
          c.loop-back.invariant.values));
      cost = omega (arith, c.carry_back.ensures.cost, c.loop-back.invariant.cost);
    }

pub returns-clause-values : goal.returns-clause-values
returns-clause-values g c =
    let there : c.start-start.result + (c.saturating_sub-years.result - c.loop-back.back)
    ≡ c.args.task.now.group.now.start =
    omega (arith, c.loop-back-test.false, c.start-start.ensures.value) in
    subst (λ (t : ℕ). HoldDuesOn c.args.task.now (events_of c.args.events) t c.loop-back.work) there
    c.loop-back.invariant.values

pub returns-clause-cost : goal.returns-clause-cost
returns-clause-cost g c =
    let task = c.args.task.now in
    let few : c.loop-back.back ≤ task.horizon =
    omega (arith, c.saturating_sub-years.ensures, c.loop-back.auto.back-end) in
    omega (
      arith,
      c.loop-back.invariant.cost,
      pass-cost task.group.now.ties c.loop-back.back task.horizon
          (named_of_task task) few,
    )
