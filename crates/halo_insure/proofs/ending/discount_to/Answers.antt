use Rattle.std.proofs.Common.{◌≡◌, arith, subst}
use Rattle.std.proofs.lemmas.Int.{ints}
use Rattle.halo_along.specs.OfTask.{tree_task_of}
use Rattle.halo_along.specs.Years.{IsDiscount}
use Rattle.halo_along.proofs.OneYearMore.{discount-more, discount-none}
use Rattle.halo_insure.proofs.ending.discount_to.Goals as goal

pub loop-year-init : goal.loop-year-init
loop-year-init g c =
    let start = c.start-year.ensures.value in
    record {
      from = omega (arith, start);
      to = omega (arith, start, c.requires.from);
      discount = discount-none (tree_task_of c.args.task.now) c.start-year.result c.exact-discount.result start
          c.exact-discount.ensures.lo c.exact-discount.ensures.hi;
      cost = omega arith;
    }

pub mul-discount-requires-clause-self_from : goal.mul-discount-requires-clause-self_from
mul-discount-requires-clause-self_from g c = c.loop-year.invariant.discount.within.low

pub mul-discount-requires-clause-self_in : goal.mul-discount-requires-clause-self_in
mul-discount-requires-clause-self_in g c = omega (arith, ints, c.loop-year.invariant.discount.within.high)

pub loop-year-preserved : goal.loop-year-preserved
loop-year-preserved g c =
    let is = c.loop-year.invariant in
    let year = c.year.ensures in
    record {
      from = omega (arith, is.from);
      to = omega (arith, c.loop-year-test.true);
      discount = discount-more (tree_task_of c.args.task.now) c.loop-year.year c.loop-year.discount c.year.result
          c.mul-discount.result is.from is.discount
          (record { encloses = year.encloses; narrow = year.narrow; within = year.within })
          c.mul-discount.ensures.chance;
      cost = omega (arith, is.from, is.cost, c.mul-discount.ensures.cost);
    }

pub returns-clause-discount : goal.returns-clause-discount
returns-clause-discount g c =
    let is = c.loop-year.invariant in
    let all : c.loop-year.year ≡ c.args.t = omega (arith, is.to, c.loop-year-test.false) in
    subst (λ t. IsDiscount (tree_task_of c.args.task.now) t c.loop-year.discount) all is.discount
