use Rattle.std.proofs.Common.{◌≡◌, ℕ, suc, ◌+◌, ◌-◌, arith, lit<, subst}
use Rattle.halo_sums.specs.Masks.{bits}
use Rattle.halo_model.specs.Segment.{Run}
use Rattle.halo_compile.specs.OfTask.{basis_of_task, pay_of_task}
use Rattle.halo_annuity.specs.RunWorth.{EnclosesRun}
use Rattle.halo_annuity.proofs.RunWorths.{run-last}
use Rattle.halo_annuity.proofs.term.paid_in_run.Goals as goal

pub loop-back-init : goal.loop-back-init
loop-back-init g c =
    let task = c.args.task.now in
    let run : Run = record { first = c.args.from; last = c.args.to } in
    record {
      worth = subst (λ (t : ℕ). EnclosesRun task run c.args.times c.args.set t 1 c.ones-value.result) (omega arith)
          (λ ties. run-last (basis_of_task task ties)
          (pay_of_task task) run c.args.times g.row.N (bits g.row.N c.args.set) c.paid_at.result c.ones-value.result
          c.requires.run.some c.paid_at.ensures.value c.ones-value.ensures.lo c.ones-value.ensures.hi);
      cost = omega arith;
    }

pub paid_from-value-requires : goal.paid_from-value-requires
paid_from-value-requires g c =
    let task = c.args.task.now in
    let run : Run = record { first = c.args.from; last = c.args.to } in
    let back : ℕ = c.loop-back.back in
    let here : c.args.to - back ≡ suc (c.args.to - back - 1) = omega (arith, c.loop-back-test.true) in
    let years : suc back ≡ c.args.to - (c.args.to - back - 1) = omega (arith, c.loop-back-test.true) in (
      lit< tt,
      (
        c.requires.task,
        (
          c.requires.run,
          (
            c.requires.times,
            (
              omega (arith, c.loop-back-test.true),
              subst (λ (t : ℕ). EnclosesRun task run c.args.times c.args.set t
                  (c.args.to - (c.args.to - back - 1)) c.loop-back.value) here
                  (subst (λ (y : ℕ). EnclosesRun task run c.args.times c.args.set
                  (c.args.to - back) y c.loop-back.value) years c.loop-back.invariant.worth),
            ),
          ),
        ),
      ),
    )

pub loop-back-preserved : goal.loop-back-preserved
loop-back-preserved g c =
    let task = c.args.task.now in
    let run : Run = record { first = c.args.from; last = c.args.to } in
    let back : ℕ = c.loop-back.back in
    let here : c.args.to - back - 1 ≡ c.args.to - (back + 1) = omega arith in
    let years : suc (c.args.to - (c.args.to - back - 1)) ≡ suc (back + 1) = omega (arith, c.loop-back-test.true) in
    record {
      worth = subst
          (λ (t : ℕ). EnclosesRun task run c.args.times c.args.set t (suc (back + 1)) c.paid_from-value.result) here
          (subst (λ (y : ℕ). EnclosesRun task run c.args.times c.args.set
          (c.args.to - back - 1) y c.paid_from-value.result) years c.paid_from-value.ensures.worth);
      cost = omega (arith, c.paid_from-value.ensures.cost, c.loop-back.invariant.cost);
    }

pub returns-clause-worth : goal.returns-clause-worth
returns-clause-worth g c =
    let task = c.args.task.now in
    let run : Run = record { first = c.args.from; last = c.args.to } in
    let here : c.args.to - c.loop-back.back ≡ 0 = omega (arith, c.loop-back-test.false, c.loop-back.auto.back-end) in
    let years : suc c.loop-back.back ≡ suc c.args.to =
    omega (arith, c.loop-back-test.false, c.loop-back.auto.back-end, c.loop-back.auto) in
    subst (λ (t : ℕ). EnclosesRun task run c.args.times c.args.set t (suc c.args.to) c.loop-back.value) here
    (subst (λ (y : ℕ). EnclosesRun task run c.args.times c.args.set (c.args.to - c.loop-back.back) y c.loop-back.value)
    years c.loop-back.invariant.worth)
