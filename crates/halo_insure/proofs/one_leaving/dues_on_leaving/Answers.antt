use Rattle.std.proofs.Common.{◌≡◌, ℕ, suc, ◌+◌, ◌-◌, ◌*◌, ◌^◌, ◌≤◌, ◌∙◌, true, arith, lit<, mul-le-mul_right}
use Rattle.std.proofs.lemmas.Int.{ints}
use Rattle.halo_sums.specs.Masks.{has_bit}
use Rattle.halo_status.specs.Pay.{pay_of}
use Rattle.halo_along.specs.OfTask.{tree_task_of}
use Rattle.halo_along.proofs.ByParts.{falling-named}
use Rattle.halo_along.proofs.OneYearMore.{discount-more, discount-none}
use Rattle.halo_compile.specs.NamedSets.{named_of_task}
use Rattle.halo_compile.specs.OfTask.{pay_of_task}
use Rattle.halo_compile.proofs.NamedSets.{all-named, named-within, set-below}
use Rattle.halo_insure.proofs.HeldLeavings.{held-all, held-none}
use Rattle.halo_insure.proofs.WithoutLife.{with-outside, without-within}
use Rattle.halo_insure.proofs.one_leaving.dues_on_leaving.Goals as goal

pub clear_all-requires : goal.clear_all-requires
clear_all-requires g c =
    let body = (pay_of c.args.task.now.pay.now).body in
    let named = all-named c.lives-named.result body c.lives-named.ensures in
    (lit< tt, set-below c.args.task.now c.requires.task c.lives-named.result named)

pub without-requires-clause-within : goal.without-requires-clause-within
without-requires-clause-within g c =
    c.lives-named.ensures c.args.life ∙ falling-named (pay_of_task c.args.task.now) c.args.life c.requires.falls

pub clear_all-requires-2 : goal.clear_all-requires-2
clear_all-requires-2 g c =
    let body = (pay_of c.args.task.now.pay.now).body in
    let named = all-named c.lives-named.result body c.lives-named.ensures in
    let below = set-below c.args.task.now c.requires.task c.lives-named.result named in
    (lit< tt, omega (arith, below, c.without.ensures.smaller))

pub loop-year-init : goal.loop-year-init
loop-year-init g c =
    let task = c.args.task.now in
    let start = c.start-year.ensures.value in
    let body = (pay_of task.pay.now).body in
    record {
      from = omega (arith, start);
      few = omega (arith, start);
      discount = discount-none (tree_task_of task) c.start-year.result c.exact-discount.result start
          c.exact-discount.ensures.lo c.exact-discount.ensures.hi;
      held = held-none task c.requires.task c.start-year.ensures.group c.args.life c.requires.in_order
          c.start-year.result start c.clear_all.new.work
          (λ mask each. c.clear_all.ensures.cleared mask
          (named-within c.lives-named.result body c.lives-named.ensures mask each));
      cost = omega arith;
    }

pub mul-discount-requires-clause-self_from : goal.mul-discount-requires-clause-self_from
mul-discount-requires-clause-self_from g c = c.loop-year.invariant.discount.within.low

pub mul-discount-requires-clause-self_in : goal.mul-discount-requires-clause-self_in
mul-discount-requires-clause-self_in g c = omega (arith, ints, c.loop-year.invariant.discount.within.high)

pub add_year-requires : goal.add_year-requires
add_year-requires g c =
    let is = c.loop-year.invariant in
    let asked = c.requires in
    let year = c.year.ensures in
    let at_end = discount-more (tree_task_of c.args.task.now) c.loop-year.year c.loop-year.discount c.year.result
    c.mul-discount.result is.from is.discount
    (record { encloses = year.encloses; narrow = year.narrow; within = year.within }) c.mul-discount.ensures.chance in (
      lit< tt,
      (
        lit< tt,
        (
          asked.task,
          (
            asked.insurance,
            (
              asked.life,
              (asked.falls, (asked.in_order, (is.from, (c.loop-year-test.true, (at_end, is.held))))),
            ),
          ),
        ),
      ),
    )

pub loop-year-preserved : goal.loop-year-preserved
loop-year-preserved g c =
    let is = c.loop-year.invariant in
    let year = c.year.ensures in
    let task = c.args.task.now in
    let years : c.loop-year.year + 1 - task.group.now.start ≡ suc (c.loop-year.year - task.group.now.start) =
    omega (arith, is.from) in
    record {
      from = omega (arith, is.from);
      few = omega (arith, is.from, c.loop-year-test.true);
      discount = discount-more (tree_task_of task) c.loop-year.year c.loop-year.discount c.year.result
          c.mul-discount.result is.from is.discount
          (record { encloses = year.encloses; narrow = year.narrow; within = year.within })
          c.mul-discount.ensures.chance;
      held = c.add_year.ensures.held;
      cost = rw years (omega (arith, is.cost, c.mul-discount.ensures.cost, c.add_year.ensures.cost));
    }

pub returns-clause-values : goal.returns-clause-values
returns-clause-values g c =
    let task = c.args.task.now in
    let is = c.loop-year.invariant in
    let body = (pay_of task.pay.now).body in
    let life = c.args.life in
    let named : ℕ = c.lives-named.result in
    let on : has_bit named life ≡ true =
    c.lives-named.ensures life ∙ falling-named (pay_of_task task) life c.requires.falls in
    let end = c.clear_all-2.ensures in
    let others = c.without.ensures.value in
    held-all task c.requires.task c.start-year.ensures.group life c.requires.in_order c.loop-year.year
    (omega (arith, is.few, c.loop-year-test.false)) c.loop-year.work c.clear_all-2.new.work is.held
    (λ mask are with. end.others mask (rw others (with-outside named life on mask with)))
    (λ mask are off. end.cleared mask (rw others (without-within named life on mask off
    (named-within named body c.lives-named.ensures mask are))))

pub returns-clause-cost : goal.returns-clause-cost
returns-clause-cost g c =
    let task = c.args.task.now in
    let is = c.loop-year.invariant in
    let few : c.loop-year.year - task.group.now.start ≤ task.horizon = omega (arith, is.few) in
    let all : (c.loop-year.year - task.group.now.start) * (2 + 2 ^ named_of_task task)
    ≤ task.horizon * (2 + 2 ^ named_of_task task) = mul-le-mul_right (2 + 2 ^ named_of_task task) few in
    omega (arith, is.cost, all)
