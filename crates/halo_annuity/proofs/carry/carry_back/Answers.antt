use Rattle.std.proofs.Common.{◌≡◌, ℕ, ◌^◌, cond, arith, suc, lit<, sym, subst}
use Rattle.halo_sums.specs.Sums.{numbers_from, sum_over}
use Rattle.halo_sums.specs.Sets.{size_of}
use Rattle.halo_sums.specs.Masks.{bits}
use Rattle.halo_status.specs.Pay.{pay_of}
use Rattle.halo_sums.specs.Within.{is_within}
use Rattle.halo_compile.specs.OfTask.{basis_of_task, pay_of_task}
use Rattle.halo_compile.specs.NamedSets.{named_of_task}
use Rattle.halo_sums.proofs.Within.{within-below}
use Rattle.halo_compile.proofs.NamedSets.{all-named, modest-within, named-sets, named-size, set-below}
use Rattle.halo_annuity.proofs.NamedSets.{held-same, sets-carried, year-cost}
use Rattle.halo_compile.proofs.Tasks.{group-lives}
use Rattle.halo_annuity.proofs.carry.carry_back.Goals as goal

pub survivals-requires : goal.survivals-requires
survivals-requires g c =
    let body = (pay_of c.args.task.now.pay.now).body in
    let named = all-named c.lives-named.result body c.lives-named.ensures in (
      lit< tt,
      (
        lit< tt,
        (
          c.requires.task.sets,
          (set-below c.args.task.now c.requires.task c.lives-named.result named, c.requires.time),
        ),
      ),
    )

pub carry_sets-requires : goal.carry_sets-requires
carry_sets-requires g c =
    let task = c.args.task.now in
    let chances = c.survivals.ensures in
    let named = all-named c.lives-named.result (pay_of task.pay.now).body c.lives-named.ensures in
    let below = set-below task c.requires.task c.lives-named.result named in (
      lit< tt,
      (
        below,
        (
          c.year.ensures.within,
          (
            λ mask within. (chances.chances mask (omega (
              arith,
              c.requires.task.sets,
              below,
              within-below mask c.lives-named.result within,
            )) within).within,
            λ mask within. rw (chances.plus, chances.minus) (modest-within task c.requires.task
                c.lives-named.result named c.args.work.now c.requires.modest mask within),
          ),
        ),
      ),
    )

pub returns-clause-carried : goal.returns-clause-carried
returns-clause-carried g c = λ ties T years held.
    let task = c.args.task.now in
    let b = basis_of_task task ties in
    let carried = c.carry_sets.ensures in
    sets-carried b (group-lives g.row.N task.group.now c.start-start.ensures.group) (pay_of_task task)
    g.row.N c.lives-named.result T c.args.t years
    c.requires.time
    c.lives-named.ensures c.survivals.new.into c.carry_sets.new.work c.survivals.new.into.survivals c.year.result
    (record { encloses = c.year.ensures.encloses; narrow = c.year.ensures.narrow; within = c.year.ensures.within })
    c.survivals.ensures.chances carried.plus carried.minus
    (held-same b (pay_of_task task) T g.row.N (suc c.args.t)
    years c.survivals.new.into c.args.work.now c.survivals.ensures.plus c.survivals.ensures.minus held)

pub returns-clause-cost : goal.returns-clause-cost
returns-clause-cost g c =
    let task = c.args.task.now in
    let named : ℕ = named_of_task task in
    let body = (pay_of task.pay.now).body in
    let counted = λ (m : ℕ). sum_over (numbers_from 0 m) (λ mask. cond (is_within mask c.lives-named.result) 1 0) in
    let all = subst (λ (m : ℕ). counted m ≡ 2 ^ named)
    (sym c.requires.task.sets) (named-sets c.lives-named.result body c.lives-named.ensures g.row.N) in
    year-cost c.args.steps.now c.survivals.new.steps c.carry_sets.new.steps
    (size_of (bits g.row.N c.lives-named.result)) named (counted g.row.M)
    (named-size c.lives-named.result body c.lives-named.ensures g.row.N)
    c.survivals.ensures.cost all c.carry_sets.ensures.cost
