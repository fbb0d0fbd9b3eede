use Rattle.std.proofs.Common.{◌≡◌, ◌-◌, ◌+◌, ◌^◌, arith, lit<, subst}
use Rattle.std.proofs.lemmas.Int.{ints}
use Rattle.halo_status.specs.Nodes.{nodes}
use Rattle.halo_status.specs.Pay.{pay_of}
use Rattle.halo_along.specs.Contingent.{EnclosesEnds}
use Rattle.halo_along.proofs.EndYears.{end-small, ends-more, ends-none, ends-small}
use Rattle.halo_along.proofs.LeavingYears.{falling-products}
use Rattle.halo_along.proofs.OneYearMore.{discount-more, discount-none}
use Rattle.halo_along.proofs.ending.value_of_ends.Goals as goal

pub mul-discount-requires-clause-self_in : goal.mul-discount-requires-clause-self_in
mul-discount-requires-clause-self_in g c = omega (arith, ints, c.loop-year.invariant.discount.within.high)

pub loop-year-init : goal.loop-year-init
loop-year-init g c =
    let along = c.args.along.now in
    let start = c.start-year.ensures.value in
    record {
      from = omega (arith, start);
      few = omega (arith, start);
      discount = discount-none along c.start-year.result c.exact-discount.result start c.exact-discount.ensures.lo
          c.exact-discount.ensures.hi;
      total = ends-none along c.start-year.result c.exact-total.result start c.exact-total.ensures.lo
          c.exact-total.ensures.hi;
      cost = omega arith;
    }

pub value_of_end-requires : goal.value_of_end-requires
value_of_end-requires g c =
    let is = c.loop-year.invariant in
    let year = c.year.ensures in
    let asked = c.requires in
    let at_end = discount-more c.args.along.now c.loop-year.year c.loop-year.discount c.year.result
    c.mul-discount.result is.from is.discount
    (record { encloses = year.encloses; narrow = year.narrow; within = year.within }) c.mul-discount.ensures.chance in (
      lit< tt,
      (
        asked.along,
        (asked.insurance, (is.from, (c.loop-year-test.true, at_end))),
      ),
    )

pub add-total-requires-clause-self_in : goal.add-total-requires-clause-self_in
add-total-requires-clause-self_in g c =
    ends-small c.args.along.now _ c.loop-year.total
    (omega (arith, c.loop-year.invariant.few, c.requires.along.horizon_in)) c.loop-year.invariant.total

pub add-total-requires-clause-o_in : goal.add-total-requires-clause-o_in
add-total-requires-clause-o_in g c =
    end-small c.args.along.now _ c.value_of_end.result c.value_of_end.ensures.end

pub loop-year-preserved : goal.loop-year-preserved
loop-year-preserved g c =
    let is = c.loop-year.invariant in
    let year = c.year.ensures in
    let along = c.args.along.now in
    record {
      from = omega (arith, is.from);
      few = omega (arith, is.from);
      discount = discount-more along c.loop-year.year c.loop-year.discount c.year.result c.mul-discount.result is.from
          is.discount (record { encloses = year.encloses; narrow = year.narrow; within = year.within })
          c.mul-discount.ensures.chance;
      total = ends-more along c.loop-year.year c.loop-year.total c.value_of_end.result
          c.add-total.result is.from is.total c.value_of_end.ensures.end c.add-total.ensures.lo
          c.add-total.ensures.hi;
      cost = falling-products c.args.steps.now c.loop-year.steps c.mul-discount.new.steps c.value_of_end.new.steps
          ((nodes (pay_of along.pay.now).body + 1) ^ 2) c.loop-year.year along.group.now.start is.from is.cost
          c.mul-discount.ensures.cost c.value_of_end.ensures.cost;
    }

pub returns-clause-ends : goal.returns-clause-ends
returns-clause-ends g c =
    let is = c.loop-year.invariant in
    let all : c.loop-year.year - c.args.along.now.group.now.start
    ≡ c.args.along.now.horizon - c.args.along.now.group.now.start = omega (arith, is.few) in
    subst (λ years. EnclosesEnds c.args.along.now years c.loop-year.total) all is.total

pub returns-clause-cost : goal.returns-clause-cost
returns-clause-cost g c =
    let is = c.loop-year.invariant in
    let all : c.loop-year.year - c.args.along.now.group.now.start
    ≡ c.args.along.now.horizon - c.args.along.now.group.now.start = omega (arith, is.few) in
    rw (← all) is.cost
