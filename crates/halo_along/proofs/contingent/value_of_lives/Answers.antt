use Rattle.std.proofs.Common.{◌≡◌, arith}
use Rattle.halo_status.specs.Pay.{pay_of}
use Rattle.halo_along.proofs.Contingents.{life-small, lives-products, lives-small, no-lives, one-life-more}
use Rattle.halo_along.proofs.contingent.value_of_lives.Goals as goal

pub loop-life-init : goal.loop-life-init
loop-life-init g c = record {
  total = no-lives c.args.along.now c.exact-total.result c.exact-total.ensures.lo c.exact-total.ensures.hi;
  cost = omega arith;
}

pub add-total-requires-clause-self_in : goal.add-total-requires-clause-self_in
add-total-requires-clause-self_in g c =
    lives-small c.args.along.now c.loop-life.life c.loop-life.total
    (omega (arith, c.loop-life.auto.life-end, c.start-start.ensures.group.few)) c.requires.along.horizon_in
    c.loop-life.invariant.total

pub add-total-requires-clause-o_in : goal.add-total-requires-clause-o_in
add-total-requires-clause-o_in g c =
    life-small c.args.along.now c.loop-life.life c.value_of_life.result c.requires.along.horizon_in
    c.value_of_life.ensures.life

pub loop-life-preserved : goal.loop-life-preserved
loop-life-preserved g c =
    let is = c.loop-life.invariant in
    record {
      total = one-life-more c.args.along.now c.loop-life.life c.loop-life.total c.value_of_life.result
          c.add-total.result is.total c.value_of_life.ensures.life c.add-total.ensures.lo c.add-total.ensures.hi;
      cost = lives-products c.args.steps.now c.loop-life.steps c.value_of_life.new.steps c.loop-life.life _
          (pay_of c.args.along.now.pay.now).body is.cost c.value_of_life.ensures.cost;
    }

pub returns-clause-lives : goal.returns-clause-lives
returns-clause-lives g c =
    let all : c.loop-life.life ≡ g.row.N = omega (arith, c.loop-life.auto.life-end, c.loop-life-test.false) in
    rw all at c.loop-life.invariant.total

pub returns-clause-cost : goal.returns-clause-cost
returns-clause-cost g c =
    let all : c.loop-life.life ≡ g.row.N = omega (arith, c.loop-life.auto.life-end, c.loop-life-test.false) in
    rw all at c.loop-life.invariant.cost
