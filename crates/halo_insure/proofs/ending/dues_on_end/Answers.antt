use Rattle.std.proofs.Common.{◌≡◌, ℕ, suc, ◌-◌, ◌^◌, ◌<◌, true, arith, lit<, subst}
use Rattle.halo_sums.specs.Within.{is_within}
use Rattle.halo_sums.proofs.Within.{within-below}
use Rattle.halo_status.specs.Pay.{pay_of}
use Rattle.halo_model.specs.SetValue.{end_of_term}
use Rattle.halo_life.proofs.Within.{within-has}
use Rattle.halo_compile.specs.OfTask.{pay_of_task}
use Rattle.halo_compile.proofs.NamedSets.{all-named, named-within, set-below}
use Rattle.halo_insure.specs.Dues.{ends_count}
use Rattle.halo_insure.proofs.EndOfTerm.{dues-held, no-dues}
use Rattle.halo_insure.proofs.ending.dues_on_end.Goals.{then-n-start-via-then-n-start, then-n-start-via-else-n-start+then-task-n}
use Rattle.halo_insure.proofs.ending.dues_on_end.Goals as goal

pub clear_all-requires : goal.clear_all-requires
clear_all-requires g c =
    let body = (pay_of c.args.task.now.pay.now).body in
    let named = all-named c.lives-named.result body c.lives-named.ensures in
    (lit< tt, set-below c.args.task.now c.requires.task c.lives-named.result named)

pub returns-then-n-start-clause-values : goal.returns-then-n-start-clause-values
returns-then-n-start-clause-values g c =
    let task = c.args.task.now in
    let body = (pay_of task.pay.now).body in
    let past : task.group.now.start < c.args.n → task.horizon < c.args.n = elim c.then-n-start.branch [
      | then-n-start-via-then-n-start w ↦ λ later. absurd (omega (
        arith,
        w.if-n-start.true,
        c.start-start.ensures.value,
        later,
      ))
      | then-n-start-via-else-n-start+then-task-n w ↦ λ later. w.if-task-n.true
    ] in
    no-dues task c.requires.task c.start-start.ensures.group c.args.n past c.clear_all.new.work
    (λ mask each. c.clear_all.ensures.cleared mask
    (named-within c.lives-named.result body c.lives-named.ensures mask each))

pub pay_ends-requires : goal.pay_ends-requires
pay_ends-requires g c =
    let task = c.args.task.now in
    let body = (pay_of task.pay.now).body in
    let year = c.year_of.ensures in
    let named = all-named c.lives-named.result body c.lives-named.ensures in
    let below = set-below task c.requires.task c.lives-named.result named in
    let inside : (mask : ℕ) → is_within mask c.lives-named.result ≡ true → mask < 2 ^ g.row.N =
    λ mask within. omega (arith, c.requires.task.sets, below, within-below mask c.lives-named.result within) in (
      lit< tt,
      (
        lit< tt,
        (
          below,
          (
            year.small,
            (
              λ mask h. year.here_sized mask (inside mask h),
              (
                λ mask h. year.next_sized mask (inside mask h),
                λ mask h. (c.endowments_to.ensures.endowments mask (inside mask h)
                    (λ i there. named i (within-has mask c.lives-named.result h i there))).within,
              ),
            ),
          ),
        ),
      ),
    )

pub returns-clause-values : goal.returns-clause-values
returns-clause-values g c =
    let task = c.args.task.now in
    let body = (pay_of task.pay.now).body in
    let last : c.args.n ≡ suc (c.args.n - 1) = omega (arith, c.requires.some) in
    let counted = subst (λ (m : ℕ). c.end_counts-ends.result ≡ ends_count (pay_of_task task) (end_of_term m) m) last
    c.end_counts-ends.ensures in
    dues-held task c.requires.task c.start-start.ensures.group (c.args.n - 1)
    (omega (arith, c.start-start.ensures.value, c.if-n-start.false))
    (omega (arith, c.if-task-n.false, c.requires.some))
    c.year_of.result c.end_counts-ends.result c.year_of.ensures counted c.args.n last c.lives-named.result
    (named-within c.lives-named.result body c.lives-named.ensures)
    c.endowments_to.new.work c.pay_ends.new.work c.endowments_to.ensures.endowments
    c.pay_ends.ensures.plus c.pay_ends.ensures.minus
