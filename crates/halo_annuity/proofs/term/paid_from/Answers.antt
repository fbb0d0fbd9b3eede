use Rattle.std.proofs.Common.{suc, ◌-◌, ◌^◌, arith, refl}
use Rattle.std.proofs.lemmas.Int.{ints}
use Rattle.halo_sums.specs.Masks.{bits}
use Rattle.halo_contract.specs.declared.ties.Ties.TheVariants.{Declared}
use Rattle.halo_model.specs.Segment.{Run}
use Rattle.halo_compile.specs.OfTask.{basis_of_task, pay_of_task}
use Rattle.halo_annuity.proofs.RunWorths.{run-carried, run-not-paid, run-paid, run-within}
use Rattle.halo_sums.proofs.SetMasks.{length-bits}
use Rattle.halo_compile.proofs.Coefficients.{size-within}
use Rattle.halo_compile.proofs.Tasks.{group-lives}
use Rattle.halo_annuity.proofs.TaskFacts.{last-in}
use Rattle.halo_annuity.proofs.term.paid_from.Goals as goal

pub carried-value-requires-clause-from : goal.carried-value-requires-clause-from
carried-value-requires-clause-from g c = (c.requires.later Declared).within.low

pub carried-value-requires-clause-room : goal.carried-value-requires-clause-room
carried-value-requires-clause-room g c =
    let task = c.args.task.now in
    let run : Run = record { first = c.args.from; last = c.args.to } in
    let within =
    run-within (pay_of_task task) run c.args.times (basis_of_task task Declared) g.row.N (suc c.args.t)
    (c.args.to - c.args.t) (bits g.row.N c.args.set) c.args.later refl c.requires.task.valid.vary c.requires.times
    (omega
    (arith, c.requires.time, c.requires.run.to, last-in task.pay.now.kind task.horizon, c.requires.task.horizon_in))
    (c.requires.later Declared) in
    omega (arith, ints, within.high)

pub returns-then-t-from-clause-worth : goal.returns-then-t-from-clause-worth
returns-then-t-from-clause-worth g c = λ ties.
    let task = c.args.task.now in
    let b = basis_of_task task ties in
    let run : Run = record { first = c.args.from; last = c.args.to } in
    run-not-paid b (pay_of_task task) run c.args.times g.row.N
    (bits g.row.N c.args.set) (c.args.to - c.args.t) c.args.t c.carried-value.result c.if-t-from.true
    (run-carried b (pay_of_task task) run c.args.times g.row.N
    (bits g.row.N c.args.set) (group-lives g.row.N task.group.now c.start-start.ensures.group)
    (c.args.to - c.args.t) c.args.t c.args.later c.year.result c.carried-value.result
    (omega
    (arith, c.requires.time, c.requires.run.to, last-in task.pay.now.kind task.horizon, c.requires.task.horizon_in))
    (c.requires.later ties) (c.year.ensures.year ties) c.carried-value.ensures.carries)

pub returns-clause-worth : goal.returns-clause-worth
returns-clause-worth g c = λ ties.
    let task = c.args.task.now in
    let b = basis_of_task task ties in
    let run : Run = record { first = c.args.from; last = c.args.to } in
    run-paid b (pay_of_task task) run c.args.times g.row.N (bits g.row.N c.args.set)
    (c.args.to - c.args.t) c.args.t c.paid_at.result c.carried-value.result c.ones.result c.add.result
    (omega (arith, c.if-t-from.false)) (omega (arith, c.requires.time)) c.paid_at.ensures.value
    (run-carried b (pay_of_task task) run c.args.times g.row.N
    (bits g.row.N c.args.set) (group-lives g.row.N task.group.now c.start-start.ensures.group)
    (c.args.to - c.args.t) c.args.t c.args.later c.year.result c.carried-value.result
    (omega
    (arith, c.requires.time, c.requires.run.to, last-in task.pay.now.kind task.horizon, c.requires.task.horizon_in))
    (c.requires.later ties) (c.year.ensures.year ties) c.carried-value.ensures.carries)
    c.ones.ensures.lo c.ones.ensures.hi c.add.ensures.lo c.add.ensures.hi

pub add-requires-clause-self_in : goal.add-requires-clause-self_in
add-requires-clause-self_in g c =
    let task = c.args.task.now in
    let run : Run = record { first = c.args.from; last = c.args.to } in
    let within =
    run-within (pay_of_task task) run c.args.times (basis_of_task task Declared) g.row.N (suc c.args.t)
    (c.args.to - c.args.t) (bits g.row.N c.args.set) c.args.later refl c.requires.task.valid.vary c.requires.times
    (omega
    (arith, c.requires.time, c.requires.run.to, last-in task.pay.now.kind task.horizon, c.requires.task.horizon_in))
    (c.requires.later Declared) in
    let bound = c.carried-value.ensures.carries.bound (10 ^ 14) (omega (arith, ints, within.high)) in
    record { low = omega (arith, ints, c.carried-value.ensures.carries.from); high = omega (arith, ints, bound) }

pub returns-then-t-from-clause-cost : goal.returns-then-t-from-clause-cost
returns-then-t-from-clause-cost g c =
    omega (
      arith,
      c.carried-value.ensures.cost,
      c.year.ensures.cost,
      size-within (bits g.row.N c.args.set),
      length-bits g.row.N c.args.set,
    )

pub returns-clause-cost : goal.returns-clause-cost
returns-clause-cost g c =
    omega (
      arith,
      c.carried-value.ensures.cost,
      c.year.ensures.cost,
      size-within (bits g.row.N c.args.set),
      length-bits g.row.N c.args.set,
    )
