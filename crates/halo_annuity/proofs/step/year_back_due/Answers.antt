use Rattle.std.proofs.Common.{◌≡◌, ℕ, suc, ◌-◌, ◌∙◌, arith, lit<, refl, sym, subst}
use Rattle.halo_contract.specs.declared.ties.Ties.TheVariants.{Declared}
use Rattle.halo_status.specs.Pay.{pay_of}
use Rattle.halo_compile.specs.OfTask.{basis_of_task, pay_of_task}
use Rattle.halo_annuity.specs.OfTask.{last_of_task}
use Rattle.halo_annuity.specs.Worth.{HoldValues}
use Rattle.halo_annuity.proofs.AtTimes.{due-carried, due-last}
use Rattle.halo_annuity.proofs.Modest.{carried-modest, values-modest}
use Rattle.halo_annuity.proofs.TaskFacts.{modest-sets}
use Rattle.halo_annuity.proofs.step.year_back_due.Goals as goal

pub carry_back-requires : goal.carry_back-requires
carry_back-requires g c =
    let task = c.args.task.now in
    let in_time = c.requires.task.horizon_in in
    let last = due-last task.pay.now.kind task.horizon c.requires.due (omega (arith, c.requires.time)) in (
      lit< tt,
      (
        lit< tt,
        (
          c.requires.task,
          (
            λ e. absurd (cc (sym c.requires.due ∙ e)),
            (
              omega (arith, c.requires.time, in_time),
              modest-sets g.row.M g.row.N (pay_of task.pay.now).body c.args.work.now c.requires.task.sets
                  (values-modest (basis_of_task task Declared) (pay_of_task task)
                  refl c.requires.task.valid.vary (suc c.args.t) g.row.N c.start-start.ensures.group.few
                  c.args.work.now (suc c.args.t) (suc (last_of_task task) - suc c.args.t)
                  (omega (arith, c.requires.time, in_time, last)) (c.requires.values Declared)),
            ),
          ),
        ),
      ),
    )

pub pay-requires : goal.pay-requires
pay-requires g c =
    let task = c.args.task.now in
    let in_time = c.requires.task.horizon_in in
    let last = due-last task.pay.now.kind task.horizon c.requires.due (omega (arith, c.requires.time)) in (
      lit< tt,
      (
        lit< tt,
        (
          c.requires.task,
          (
            omega (arith, c.requires.time, last),
            modest-sets g.row.M g.row.N (pay_of task.pay.now).body c.carry_back.new.work c.requires.task.sets
                (carried-modest (basis_of_task task Declared) (pay_of_task task) refl c.requires.task.valid.vary
                (suc c.args.t) g.row.N c.start-start.ensures.group.few c.carry_back.new.work c.args.t
                (suc (last_of_task task) - suc c.args.t)
                (omega (arith, c.requires.time, in_time, last)) (c.carry_back.ensures.carried Declared
                (suc c.args.t) (suc (last_of_task task) - suc c.args.t) (c.requires.values Declared))),
          ),
        ),
      ),
    )

pub returns-clause-values : goal.returns-clause-values
returns-clause-values g c = λ ties.
    let task = c.args.task.now in
    let last = due-last task.pay.now.kind task.horizon c.requires.due (omega (arith, c.requires.time)) in
    let years : ℕ = suc (last_of_task task) - suc c.args.t in
    let more : suc years ≡ suc (last_of_task task) - c.args.t = omega (arith, last, c.requires.time) in
    subst (λ (y : ℕ). HoldValues
    (basis_of_task task ties) (pay_of_task task) c.args.t g.row.N c.args.t y c.pay.new.work) more
    (c.pay.ensures.paid ties years
    (due-carried (basis_of_task task ties) (pay_of_task task) g.row.N c.args.t c.carry_back.new.work
    c.requires.due years (c.carry_back.ensures.carried ties (suc c.args.t) years (c.requires.values ties))))
