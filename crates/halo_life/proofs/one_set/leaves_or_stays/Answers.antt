use Rattle.std.proofs.Common.{◌+◌, ◌*◌, ◌≤ℤ◌, arith, pos, refl}
use Rattle.std.proofs.lemmas.Int.{ints}
use Rattle.halo_num.proofs.Enclosures.{encloses_at}
use Rattle.halo_num.specs.Ends.{fine}
use Rattle.halo_life.proofs.OneSet.{floor-share}
use Rattle.halo_life.proofs.one_set.leaves_or_stays.Goals as goal

pub returns-clause-encloses : goal.returns-clause-encloses
returns-clause-encloses g c = λ q p d n m v leaving staying others.
    c.add.ensures.encloses (pos (q * m)) (pos (p * n)) (d * m)
    (encloses_at c.args.life.leaving (pos q) (pos (q * m)) d (d * m) m leaving.encloses refl refl)
    (c.mul.ensures.encloses (pos p) (pos n) d m staying.encloses others.encloses)

pub returns-clause-narrow : goal.returns-clause-narrow
returns-clause-narrow g c = λ q p d n m v leaving staying others.
    let product = c.mul.ensures.narrow 1 v staying.within.high others.within.high staying.narrow others.narrow in
    let sum = c.add.ensures.narrow 1 (1 + v + 1) leaving.narrow product in
    record { near = omega (arith, ints, sum.near) }

pub returns-clause-low : goal.returns-clause-low
returns-clause-low g c =
    let low : c.args.others.lo ≤ℤ pos fine = omega (arith, ints, c.lo-lowest.ensures.order, c.requires.others.high) in
    let share = floor-share
    c.mul.result.lo c.args.life.staying.lo c.args.others.lo c.mul.ensures.low c.requires.staying.low low in
    omega (arith, ints, c.add.ensures.lo, share, c.requires.together)

pub add-requires-clause-o_in : goal.add-requires-clause-o_in
add-requires-clause-o_in g c =
    let product = c.mul.ensures.within c.requires.staying.high c.requires.others.high in
    record { low = omega (arith, ints, product.low); high = omega (arith, ints, product.high) }

pub returns-clause-within : goal.returns-clause-within
returns-clause-within g c =
    let product = c.mul.ensures.within c.requires.staying.high c.requires.others.high in
    record {
      low = omega (arith, ints, c.add.ensures.lo, product.low, c.requires.leaving.low);
      high = omega (arith, ints, c.add.ensures.hi, product.high, c.requires.leaving.high);
    }
