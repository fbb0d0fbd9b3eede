use Rattle.std.proofs.Common.{◌≡◌, ◌+◌, ◌-◌, ◌≤◌, true, arith, lit<, refl, sym, ◌∙◌}
use Rattle.halo_sums.specs.Masks.{bits}
use Rattle.halo_sums.specs.Within.{is_within}
use Rattle.halo_status.specs.Pay.{pay_of}
use Rattle.halo_contract.specs.declared.ties.Ties.TheVariants.{Declared}
use Rattle.halo_model.specs.FromTables.{lives_of}
use Rattle.halo_life.specs.Lists.{entry}
use Rattle.halo_life.proofs.Within.{within-has}
use Rattle.halo_compile.specs.NamedSets.{AreNamed}
use Rattle.halo_compile.specs.OfTask.{basis_of_task, pay_of_task}
use Rattle.halo_compile.proofs.NamedSets.{all-named, named-size, named-within, set-below}
use Rattle.halo_endowment.specs.Endowment.{EnclosesEndowment}
use Rattle.halo_annuity.proofs.Payments.{from-start, no-more, paid-more, payments-modest}
use Rattle.halo_annuity.proofs.paid.pay_time.Goals as goal

pub returns-then-paid-eq0-clause-paid : goal.returns-then-paid-eq0-clause-paid
returns-then-paid-eq0-clause-paid g c = λ ties mask each.
    no-more (basis_of_task c.args.task.now ties) g.row.N (pay_of_task c.args.task.now) c.args.run.now.to
    (bits g.row.N mask) c.args.run.now.from c.args.t c.requires.from (entry c.args.work.now.minus mask)
    (sym c.paid_at-paid.ensures.value ∙ c.if-paid-eq0.true) (c.requires.paid ties mask each)

pub endowments-requires : goal.endowments-requires
endowments-requires g c =
    let task = c.args.task.now in
    let body = (pay_of task.pay.now).body in
    let named = all-named c.lives-named.result body c.lives-named.ensures in
    let at = c.at-group.ensures in (
      lit< tt,
      (
        lit< tt,
        (
          c.requires.task.sets,
          (
            set-below task c.requires.task c.lives-named.result named,
            (
              omega (arith, at.start),
              (
                omega (arith, c.requires.to, c.requires.last),
                (λ i low. rw (at.file, at.lives, at.start) (at.alive i low), c.at-discount.ensures.within),
              ),
            ),
          ),
        ),
      ),
    )

pub add_payments-requires : goal.add_payments-requires
add_payments-requires g c =
    let task = c.args.task.now in
    let body = (pay_of task.pay.now).body in
    let named = all-named c.lives-named.result body c.lives-named.ensures in
    let at = c.at-group.ensures in
    let b = basis_of_task task Declared in
    let in_time : c.args.t ≤ 200 = omega (arith, c.requires.to, c.requires.last) in
    let power = from-start b.q (λ k. b.p k + b.q k) c.at-group.result.start c.args.t c.at-discount.result at.start
    (c.at-discount.ensures.power b.q (λ k. b.p k + b.q k) 0 c.requires.powers (omega (arith, in_time))) in
    let of_group : b.lives ≡ lives_of c.at-group.result.file c.at-group.result.lives = rw (at.file, at.lives) refl in
    let held = c.endowments.ensures.endowments b of_group power in (
      lit< tt,
      (
        set-below task c.requires.task c.lives-named.result named,
        (
          c.paid_at-paid.ensures.small,
          (
            λ mask within. (held mask within).within,
            λ mask within. let each : AreNamed body mask =
                λ i there. named i (within-has mask c.lives-named.result within i there) in
                rw (c.endowments.ensures.minus mask)
                (payments-modest (pay_of_task task) refl c.requires.task.valid.vary b g.row.N
                c.args.run.now.from (c.args.t - c.args.run.now.from) c.args.run.now.to (bits g.row.N mask)
                (entry c.args.work.now.minus mask) (omega (arith, in_time, c.requires.from))
                (c.requires.paid Declared mask each)),
          ),
        ),
      ),
    )

pub returns-clause-paid : goal.returns-clause-paid
returns-clause-paid g c = λ ties mask each.
    let task = c.args.task.now in
    let body = (pay_of task.pay.now).body in
    let at = c.at-group.ensures in
    let b = basis_of_task task ties in
    let in_time : c.args.t ≤ 200 = omega (arith, c.requires.to, c.requires.last) in
    let power = from-start b.q (λ k. b.p k + b.q k) c.at-group.result.start c.args.t c.at-discount.result at.start
    (c.at-discount.ensures.power b.q (λ k. b.p k + b.q k) 0 c.requires.powers (omega (arith, in_time))) in
    let of_group : b.lives ≡ lives_of c.at-group.result.file c.at-group.result.lives = rw (at.file, at.lives) refl in
    let within : is_within mask c.lives-named.result ≡ true =
    named-within c.lives-named.result body c.lives-named.ensures mask each in
    let of_set : EnclosesEndowment b g.row.N 0 c.args.t mask (entry c.endowments.new.work.plus mask) =
    rw at.start at (c.endowments.ensures.endowments b of_group power mask within) in
    let adds = rw (c.paid_at-paid.ensures.value, c.endowments.ensures.minus mask)
    at (c.add_payments.ensures mask within) in
    paid-more b g.row.N mask (pay_of_task task) c.args.run.now.to c.args.run.now.from c.args.t
    c.requires.from c.requires.to in_time (entry c.endowments.new.work.plus mask) (entry c.args.work.now.minus mask)
    (entry c.add_payments.new.work.minus mask) of_set adds (c.requires.paid ties mask each)

pub returns-clause-cost : goal.returns-clause-cost
returns-clause-cost g c =
    let body = (pay_of c.args.task.now.pay.now).body in
    let size = named-size c.lives-named.result body c.lives-named.ensures g.row.N in
    rw size at c.endowments.ensures.cost
