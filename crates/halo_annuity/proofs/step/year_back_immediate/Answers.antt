use Rattle.std.proofs.Common.{◌≡◌, ℕ, suc, ◌+◌, ◌-◌, ◌∙◌, arith, lit<, refl, sym, subst}
use Rattle.halo_contract.specs.declared.ties.Ties.TheVariants.{Declared}
use Rattle.halo_status.specs.Pay.{pay_of}
use Rattle.halo_compile.specs.OfTask.{basis_of_task, pay_of_task}
use Rattle.halo_annuity.specs.OfTask.{last_of_task}
use Rattle.halo_annuity.specs.Worth.{HoldCarried, HoldValues}
use Rattle.halo_annuity.proofs.AtTimes.{immediate-carried, immediate-last, none-at-once}
use Rattle.halo_annuity.proofs.Modest.{values-modest}
use Rattle.halo_annuity.proofs.Passes.{none-paid}
use Rattle.halo_annuity.proofs.TaskFacts.{modest-sets}
use Rattle.halo_annuity.proofs.step.year_back_immediate.Goals as goal

pub pay-requires : goal.pay-requires
pay-requires g c =
    let task = c.args.task.now in
    let in_time = c.requires.task.horizon_in in
    let last = immediate-last task.pay.now.kind task.horizon c.requires.immediate in (
      lit< tt,
      (
        lit< tt,
        (
          c.requires.task,
          (
            omega (arith, c.requires.time, last),
            modest-sets g.row.M g.row.N (pay_of task.pay.now).body c.args.work.now c.requires.task.sets
                (values-modest (basis_of_task task Declared) (pay_of_task task) refl c.requires.task.valid.vary
                (suc c.args.t) g.row.N c.start-start.ensures.group.few c.args.work.now
                (suc c.args.t) (suc (last_of_task task) - suc c.args.t)
                (omega (arith, c.requires.time, in_time, last)) (c.requires.values Declared)),
          ),
        ),
      ),
    )

pub carry_back-requires : goal.carry_back-requires
carry_back-requires g c =
    let task = c.args.task.now in
    let in_time = c.requires.task.horizon_in in
    let last = immediate-last task.pay.now.kind task.horizon c.requires.immediate in
    let years : ℕ = last_of_task task - suc c.args.t in
    let next : suc c.args.t ≡ c.args.t + 1 = omega arith in
    let b = basis_of_task task Declared in
    let carried = subst (λ (t : ℕ). HoldCarried b (pay_of_task task) c.args.t g.row.N t years c.args.work.now) next
    (immediate-carried b (pay_of_task task) g.row.N
    (suc c.args.t) c.args.work.now c.requires.immediate c.args.t years (suc (last_of_task task) - suc c.args.t)
    (omega arith) (omega (arith, c.requires.time, last)) (c.requires.values Declared)) in
    let paid = c.pay.ensures.paid Declared years carried in (
      lit< tt,
      (
        lit< tt,
        (
          c.requires.task,
          (
            λ e. absurd (cc (sym c.requires.immediate ∙ e)),
            (
              omega (arith, c.requires.time, in_time),
              modest-sets g.row.M g.row.N (pay_of task.pay.now).body c.pay.new.work c.requires.task.sets
                  (values-modest b (pay_of_task task) refl c.requires.task.valid.vary
                  c.args.t g.row.N c.start-start.ensures.group.few c.pay.new.work (c.args.t + 1) (suc years)
                  (omega (arith, c.requires.time, in_time, last)) paid),
            ),
          ),
        ),
      ),
    )

pub returns-clause-values : goal.returns-clause-values
returns-clause-values g c = λ ties.
    let task = c.args.task.now in
    let last = immediate-last task.pay.now.kind task.horizon c.requires.immediate in
    let years : ℕ = last_of_task task - suc c.args.t in
    let next : suc c.args.t ≡ c.args.t + 1 = omega arith in
    let b = basis_of_task task ties in
    let carried = subst (λ (t : ℕ). HoldCarried b (pay_of_task task) c.args.t g.row.N t years c.args.work.now) next
    (immediate-carried b (pay_of_task task) g.row.N
    (suc c.args.t) c.args.work.now c.requires.immediate c.args.t years (suc (last_of_task task) - suc c.args.t)
    (omega arith) (omega (arith, c.requires.time, last)) (c.requires.values ties)) in
    let paid = subst (λ (t : ℕ). HoldValues b (pay_of_task task) c.args.t g.row.N t (suc years) c.pay.new.work)
    (sym next) (c.pay.ensures.paid ties years carried) in
    none-paid b (pay_of_task task) c.args.t g.row.N c.args.t
    (suc years) (suc (last_of_task task) - c.args.t) c.carry_back.new.work
    (omega (arith, c.requires.time, last)) (none-at-once (pay_of_task task) c.requires.immediate c.args.t)
    (c.carry_back.ensures.carried ties c.args.t (suc years) paid)
