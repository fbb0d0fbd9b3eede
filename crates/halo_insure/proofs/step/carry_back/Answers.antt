use Rattle.std.proofs.Common.{◌≡◌, ℕ, suc, ◌^◌, ◌<◌, cond, true, arith, lit<, refl, sym, subst, ◌∙◌}
use Rattle.halo_status.specs.Pay.{pay_of}
use Rattle.halo_compile.specs.OfTask.{pay_of_task}
use Rattle.halo_insure.specs.OfTask.{insured_basis}
use Rattle.halo_insure.proofs.Carried.{dues-carried, held-same}
use Rattle.halo_sums.specs.Sums.{numbers_from, sum_over}
use Rattle.halo_sums.specs.Within.{is_within}
use Rattle.halo_sums.proofs.Within.{within-below}
use Rattle.halo_compile.specs.NamedSets.{named_of_task}
use Rattle.halo_compile.proofs.NamedSets.{all-named, modest-within, named-sets, named-size, set-below}
use Rattle.halo_insure.proofs.Tasks.{are-lives, lives-of-task}
use Rattle.halo_insure.proofs.step.carry_back.Goals as goal

pub survivals-requires : goal.survivals-requires
survivals-requires g c =
    let body = (pay_of c.args.task.now.pay.now).body in
    let named = all-named c.lives-named.result body c.lives-named.ensures in
    let below = set-below c.args.task.now c.requires.task c.lives-named.result named in (
      lit< tt,
      (
        lit< tt,
        (
          c.requires.task.sets,
          (below, omega (arith, c.requires.time, c.requires.task.horizon_in)),
        ),
      ),
    )

pub leavings-requires : goal.leavings-requires
leavings-requires g c =
    let body = (pay_of c.args.task.now.pay.now).body in
    let named = all-named c.lives-named.result body c.lives-named.ensures in
    let below = set-below c.args.task.now c.requires.task c.lives-named.result named in (
      lit< tt,
      (
        lit< tt,
        (
          c.requires.task.sets,
          (below, (omega (arith, c.requires.time, c.requires.task.horizon_in), c.survivals.ensures.chances)),
        ),
      ),
    )

pub sets_back-requires : goal.sets_back-requires
sets_back-requires g c =
    let task = c.args.task.now in
    let is = c.requires.task in
    let year = c.year_of.ensures in
    let named = all-named c.lives-named.result (pay_of task.pay.now).body c.lives-named.ensures in
    let below = set-below task is c.lives-named.result named in
    let inside : (mask : ℕ) → is_within mask c.lives-named.result ≡ true → mask < 2 ^ g.row.N =
    λ mask within. omega (arith, is.sets, below, within-below mask c.lives-named.result within) in (
      lit< tt,
      (
        lit< tt,
        (
          below,
          (
            year.within,
            (
              year.small,
              (
                λ mask h. year.here_sized mask (inside mask h),
                (
                  λ mask h. year.next_sized mask (inside mask h),
                  (
                    λ mask h. (c.leavings.ensures.chances mask (inside mask h) h).within,
                    (
                      λ mask h. rw c.leavings.ensures.survivals
                          ((c.survivals.ensures.chances mask (inside mask h) h).within),
                      λ mask h. rw (
                        c.leavings.ensures.plus,
                        c.leavings.ensures.minus,
                        c.survivals.ensures.plus,
                        c.survivals.ensures.minus,
                      ) (modest-within task is c.lives-named.result named c.args.work.now c.requires.modest mask h),
                    ),
                  ),
                ),
              ),
            ),
          ),
        ),
      ),
    )

pub returns-clause-values : goal.returns-clause-values
returns-clause-values g c = λ events counting ends held.
    let task = c.args.task.now in
    let is = c.requires.task in
    let group = c.start-start.ensures.group in
    let b = insured_basis task in
    let year = c.year_of.ensures in
    dues-carried {m = g.row.M} g.row.N b (are-lives task group) (pay_of_task task) refl events
    (lives-of-task task group) c.args.k (rw (← is.horizon_is) is.horizon_in) (rw (← is.horizon_is) c.requires.time)
    _ year.discount year.narrow year.payment (year.counts ∙ ends) year.here (rw (← is.horizon_is) year.next)
    c.lives-named.result c.args.counted c.lives-named.ensures counting
    c.leavings.new.into c.sets_back.new.work
    (λ mask h inside. rw c.leavings.ensures.survivals (c.survivals.ensures.chances mask h inside))
    c.leavings.ensures.chances c.sets_back.ensures.back
    (held-same b (pay_of_task task) events g.row.N
    (suc c.args.k) c.args.work.now c.leavings.new.into (c.leavings.ensures.plus ∙ c.survivals.ensures.plus)
    (c.leavings.ensures.minus ∙ c.survivals.ensures.minus) held)

pub returns-clause-cost : goal.returns-clause-cost
returns-clause-cost g c =
    let task = c.args.task.now in
    let body = (pay_of task.pay.now).body in
    let size = named-size c.lives-named.result body c.lives-named.ensures g.row.N in
    let counted = λ (m : ℕ). sum_over (numbers_from 0 m) (λ mask. cond (is_within mask c.lives-named.result) 1 0) in
    let all = subst (λ (m : ℕ). counted m ≡ 2 ^ named_of_task task)
    (sym c.requires.task.sets) (named-sets c.lives-named.result body c.lives-named.ensures g.row.N) in
    omega (
      arith,
      all,
      rw size at c.survivals.ensures.cost,
      rw size at c.leavings.ensures.cost,
      c.sets_back.ensures.cost,
    )
