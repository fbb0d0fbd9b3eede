use Rattle.std.proofs.Common.{ℕ, ◌*◌, lit<, arith, refl, ap}
use Rattle.std.proofs.lemmas.Int.{ints}
use Rattle.halo_num.specs.Ends.{fine}
use Rattle.std.specs.Prelude.{bit_and}
use Rattle.halo_status.specs.Pay.{pay_of}
use Rattle.halo_compile.proofs.NamedSets.{modest-within, named-part, part-is-named, set-below}
use Rattle.halo_compile.specs.OfTask.{pay_of_task}
use Rattle.halo_compile.proofs.Clamped.{meets-above, meets-below}
use Rattle.halo_compile.proofs.Tasks.{few-sets}
use Rattle.halo_insure.specs.Events.{events_of}
use Rattle.halo_insure.specs.OfTask.{insured_basis}
use Rattle.halo_insure.proofs.Bounds.{most-of-task, some-denominator}
use Rattle.halo_insure.proofs.PartTotals.{total-is}
use Rattle.halo_insure.proofs.Small.{dues-modest}
use Rattle.halo_insure.proofs.value.worth_at.Goals as goal

pub total-total-requires : goal.total-total-requires
total-total-requires g c =
    let task = c.args.task.now in
    let is = c.requires.task in
    let body = (pay_of task.pay.now).body in
    let set : ℕ = bit_and c.args.alive c.lives.result in
    let named = part-is-named body c.args.alive set (named-part c.lives.result body c.lives.ensures c.args.alive) in
    let few = c.start-start.ensures.group.few in (
      lit< tt,
      (
        few-sets g.row.N g.row.M is.sets few,
        (
          set-below task is set named,
          modest-within task is set named c.args.work.now (λ mask below. dues-modest (insured_basis task)
              (pay_of_task task) refl is.valid.vary (rw (← is.horizon_is) is.horizon_in) (events_of c.args.events)
              g.row.N few c.args.t c.args.work.now c.requires.values mask (omega (arith, below, is.sets))),
        ),
      ),
    )

pub between-requires-clause-meets_most : goal.between-requires-clause-meets_most
between-requires-clause-meets_most g c =
    let task = c.args.task.now in
    let group = c.start-start.ensures.group in
    let are = named-part c.lives.result (pay_of task.pay.now).body c.lives.ensures c.args.alive in
    let all = total-is task c.requires.task group c.requires.insurance c.args.events c.requires.events
    c.args.t c.args.alive _ are c.args.work.now c.total-total.result c.greatest_factor-most.result c.requires.values
    c.total-total.ensures.lo c.total-total.ensures.hi c.greatest_factor-most.ensures.value in
    meets-above c.total-total.result all.number _ c.greatest_factor-most.result (some-denominator task group
    c.fractions-fractions.ensures.interest c.args.t c.args.alive c.requires.alive) all.encloses all.bound

pub between-requires-clause-meets_least : goal.between-requires-clause-meets_least
between-requires-clause-meets_least g c =
    let task = c.args.task.now in
    let group = c.start-start.ensures.group in
    let are = named-part c.lives.result (pay_of task.pay.now).body c.lives.ensures c.args.alive in
    let all = total-is task c.requires.task group c.requires.insurance c.args.events c.requires.events
    c.args.t c.args.alive _ are c.args.work.now c.total-total.result c.greatest_factor-most.result c.requires.values
    c.total-total.ensures.lo c.total-total.ensures.hi c.greatest_factor-most.ensures.value in
    meets-below c.total-total.result all.number _ 0 (some-denominator task group
    c.fractions-fractions.ensures.interest c.args.t c.args.alive c.requires.alive) all.encloses (omega arith)

pub returns : goal.returns
returns g c =
    let task = c.args.task.now in
    let group = c.start-start.ensures.group in
    let are = named-part c.lives.result (pay_of task.pay.now).body c.lives.ensures c.args.alive in
    let all = total-is task c.requires.task group c.requires.insurance c.args.events c.requires.events
    c.args.t c.args.alive _ are c.args.work.now c.total-total.result c.greatest_factor-most.result c.requires.values
    c.total-total.ensures.lo c.total-total.ensures.hi c.greatest_factor-most.ensures.value in
    let most = most-of-task task c.requires.task group c.requires.insurance c.greatest_factor-most.result
    c.greatest_factor-most.ensures.value in
    let high = ap (λ (n : ℕ). n * fine) most in
    record {
      encloses = rw all.is (c.between.ensures.encloses all.number _ all.bound (omega arith) all.encloses);
      narrow = c.between.ensures.narrow _ all.narrow;
      within = record {
        low = c.between.ensures.within.low;
        high = omega (arith, ints, c.between.ensures.within.high, high);
      };
    }
