use Rattle.std.proofs.Common.{arith}
use Rattle.std.proofs.lemmas.Int.{ints}
use Rattle.halo_annuity.proofs.Discounted.{nothing-carried}
use Rattle.halo_annuity.proofs.carry.carry_set.Goals as goal

pub mul-chance-requires-clause-o_in : goal.mul-chance-requires-clause-o_in
mul-chance-requires-clause-o_in g c = rw c.at-survival.ensures (omega (arith, ints, c.requires.survival.high))

pub carried-plus-requires-clause-room : goal.carried-plus-requires-clause-room
carried-plus-requires-clause-room g c = rw c.plus-plus.ensures (omega (arith, ints, c.requires.modest.0.high))

pub carried-minus-requires-clause-room : goal.carried-minus-requires-clause-room
carried-minus-requires-clause-room g c = rw c.minus-minus.ensures (omega (arith, ints, c.requires.modest.1.high))

pub returns-then-hi-le0-2-clause-plus : goal.returns-then-hi-le0-2-clause-plus
returns-then-hi-le0-2-clause-plus g c =
    rw (← c.plus-plus.ensures)
    (nothing-carried c.args.discount _ c.requires.discount c.requires.survival c.lo.ensures.order
    (rw c.at-survival.ensures at c.lo-2.ensures.order) c.plus-plus.result
    (rw c.plus-plus.ensures c.requires.modest.0.low) c.hi.ensures.order
    (omega (arith, ints, c.hi.ensures.value, c.if-hi-le0.true)))

pub returns-then-hi-le0-2-clause-minus : goal.returns-then-hi-le0-2-clause-minus
returns-then-hi-le0-2-clause-minus g c =
    rw (← c.minus-minus.ensures)
    (nothing-carried c.args.discount _ c.requires.discount c.requires.survival c.lo.ensures.order
    (rw c.at-survival.ensures at c.lo-2.ensures.order) c.minus-minus.result
    (rw c.minus-minus.ensures c.requires.modest.1.low) c.hi-then-hi-le0.ensures.order
    (omega (arith, ints, c.hi-then-hi-le0.ensures.value, c.if-hi-le0-2.true)))

pub returns-clause-plus : goal.returns-clause-plus
returns-clause-plus g c = record {
  chance = c.mul-chance.result;
  product = λ n m d e v w p q. c.mul-chance.ensures.chance n m d e v w p (rw c.at-survival.ensures q);
  carries = rw (c.put.ensures.plus, ← c.plus-plus.ensures) c.carried-plus.ensures.carries;
}

pub returns-clause-minus : goal.returns-clause-minus
returns-clause-minus g c = record {
  chance = c.mul-chance.result;
  product = λ n m d e v w p q. c.mul-chance.ensures.chance n m d e v w p (rw c.at-survival.ensures q);
  carries = rw (c.put.ensures.minus, ← c.minus-minus.ensures) c.carried-minus.ensures.carries;
}

pub carried-plus-requires-clause-chance : goal.carried-plus-requires-clause-chance
carried-plus-requires-clause-chance g c =
    c.mul-chance.ensures.within c.requires.discount.high (rw c.at-survival.ensures c.requires.survival.high)

pub carried-minus-requires-clause-chance : goal.carried-minus-requires-clause-chance
carried-minus-requires-clause-chance g c =
    c.mul-chance.ensures.within c.requires.discount.high (rw c.at-survival.ensures c.requires.survival.high)
