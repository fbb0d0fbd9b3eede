use Rattle.std.proofs.Common.{◌≡◌, ◌-◌, ◌+◌, ◌^◌, arith, add-one, lit<, subst}
use Rattle.std.proofs.lemmas.Int.{ints}
use Rattle.halo_status.specs.Nodes.{nodes}
use Rattle.halo_status.specs.Pay.{pay_of}
use Rattle.halo_along.specs.Insured.{EnclosesInsuredYears}
use Rattle.halo_along.proofs.InsuredYears.{insured-more, insured-none, insured-products, insured-small, insured-year-small}
use Rattle.halo_along.proofs.OneYearMore.{discount-more, discount-none}
use Rattle.halo_along.proofs.insured_years.value_of_years.Goals as goal

pub returns-then-along-start-clause-years : goal.returns-then-along-start-clause-years
returns-then-along-start-clause-years g c =
    let along = c.args.along.now in
    insured-none along (along.horizon - along.group.now.start) c.exact.result
    (omega (arith, c.start-start.ensures.value, c.if-along-start.true)) c.exact.ensures.lo c.exact.ensures.hi

pub loop-year-init : goal.loop-year-init
loop-year-init g c =
    let along = c.args.along.now in
    let start = c.start-start.ensures.value in
    record {
      from = omega (arith, start);
      to = omega (arith, c.if-along-start.false);
      discount = discount-none along c.start-start.result c.exact-discount.result start c.exact-discount.ensures.lo
          c.exact-discount.ensures.hi;
      existing = c.value_of_one-existing.ensures.one;
      total = insured-none along (c.start-start.result - along.group.now.start) c.exact-total.result
          (omega (arith, start)) c.exact-total.ensures.lo c.exact-total.ensures.hi;
      cost =
          let none : c.start-start.result - along.group.now.start ≡ 0 = omega (arith, start) in
          rw none (omega (arith, c.value_of_one-existing.ensures.cost));
    }

pub mul-discount-requires-clause-self_from : goal.mul-discount-requires-clause-self_from
mul-discount-requires-clause-self_from g c = c.loop-year.invariant.discount.within.low

pub mul-discount-requires-clause-self_in : goal.mul-discount-requires-clause-self_in
mul-discount-requires-clause-self_in g c = omega (arith, ints, c.loop-year.invariant.discount.within.high)

pub value_of_one-next-requires : goal.value_of_one-next-requires
value_of_one-next-requires g c =
    let is = c.loop-year.invariant in
    let year = c.year.ensures in (
      lit< tt,
      (
        c.requires.along,
        (
          c.requires.unmarked,
          (
            omega (arith, is.from),
            (
              omega (arith, c.loop-year-test.true),
              discount-more c.args.along.now c.loop-year.year c.loop-year.discount c.year.result
                  c.mul-discount.result is.from is.discount
                  (record { encloses = year.encloses; narrow = year.narrow; within = year.within })
                  c.mul-discount.ensures.chance,
            ),
          ),
        ),
      ),
    )

pub value_of_year-failures-requires : goal.value_of_year-failures-requires
value_of_year-failures-requires g c =
    let is = c.loop-year.invariant in
    let next = rw add-one at c.value_of_one-next.ensures.one in
    (lit< tt, (c.requires.along, (is.from, (c.loop-year-test.true, (is.existing, next)))))

pub add-total-requires-clause-self_in : goal.add-total-requires-clause-self_in
add-total-requires-clause-self_in g c =
    insured-small c.args.along.now _ c.loop-year.total
    (omega (arith, c.loop-year.invariant.to, c.requires.along.horizon_in)) c.loop-year.invariant.total

pub add-total-requires-clause-o_in : goal.add-total-requires-clause-o_in
add-total-requires-clause-o_in g c =
    insured-year-small c.args.along.now _ c.value_of_year-failures.result c.value_of_year-failures.ensures.year

pub loop-year-preserved : goal.loop-year-preserved
loop-year-preserved g c =
    let is = c.loop-year.invariant in
    let year = c.year.ensures in
    let along = c.args.along.now in
    record {
      from = omega (arith, is.from);
      to = omega (arith, c.loop-year-test.true);
      discount = discount-more along c.loop-year.year c.loop-year.discount c.year.result c.mul-discount.result is.from
          is.discount (record { encloses = year.encloses; narrow = year.narrow; within = year.within })
          c.mul-discount.ensures.chance;
      existing = c.value_of_one-next.ensures.one;
      total = insured-more along c.loop-year.year c.loop-year.total c.value_of_year-failures.result c.add-total.result
          is.from is.total c.value_of_year-failures.ensures.year c.add-total.ensures.lo c.add-total.ensures.hi;
      cost = insured-products c.args.steps.now c.loop-year.steps c.mul-discount.new.steps
          c.value_of_one-next.new.steps c.value_of_year-failures.new.steps
          ((nodes (pay_of along.pay.now).body + 1) ^ 2) c.loop-year.year along.group.now.start is.from is.cost
          c.mul-discount.ensures.cost c.value_of_one-next.ensures.cost c.value_of_year-failures.ensures.cost;
    }

pub returns-clause-years : goal.returns-clause-years
returns-clause-years g c =
    let along = c.args.along.now in
    let is = c.loop-year.invariant in
    let all : c.loop-year.year - along.group.now.start ≡ along.horizon - along.group.now.start =
    omega (arith, is.to, c.loop-year-test.false) in
    subst (λ years. EnclosesInsuredYears along years c.loop-year.total) all is.total

pub returns-clause-cost : goal.returns-clause-cost
returns-clause-cost g c =
    let along = c.args.along.now in
    let is = c.loop-year.invariant in
    let all : c.loop-year.year - along.group.now.start ≡ along.horizon - along.group.now.start =
    omega (arith, is.to, c.loop-year-test.false) in
    rw all at is.cost
