use Rattle.std.proofs.Common.{◌≡◌, suc, ◌+◌, arith, lit<, refl}
use Rattle.halo_model.specs.SetValue.{all_events}
use Rattle.halo_compile.specs.OfTask.{pay_of_task}
use Rattle.halo_insure.specs.OfTask.{insured_basis}
use Rattle.halo_insure.proofs.Small.{dues-modest}
use Rattle.halo_insure.proofs.step.year_back.Goals as goal

pub carry_back-requires : goal.carry_back-requires
carry_back-requires g c =
    let task = c.args.task.now in
    let is = c.requires.task in (
      lit< tt,
      (
        lit< tt,
        (
          is,
          (
            c.requires.insurance,
            (
              c.requires.time,
              λ mask below. (dues-modest (insured_basis task) (pay_of_task task) refl is.valid.vary
                  (rw (← is.horizon_is) is.horizon_in) all_events g.row.N c.start-start.ensures.group.few
                  (suc c.args.k) c.args.work.now c.requires.values) mask (omega (arith, below, is.sets)),
            ),
          ),
        ),
      ),
    )

pub returns-clause-values : goal.returns-clause-values
returns-clause-values g c =
    let next : c.args.k + 1 ≡ suc c.args.k = omega arith in
    c.carry_back.ensures.values all_events c.failing_lives-counted.ensures
    (rw next at c.can_fall_on_term-ends.ensures) c.requires.values
