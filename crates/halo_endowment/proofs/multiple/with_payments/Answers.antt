use Rattle.std.proofs.Common.{arith, pos, ◌*◌}
use Rattle.std.proofs.lemmas.Int.{ints}
use Rattle.halo_endowment.proofs.multiple.with_payments.Goals as goal

pub returns : goal.returns
returns c =
    let paid = c.payments.ensures in
    let sum = c.add.ensures in
    record {
      from = omega (arith, ints, sum.lo, c.requires.before.low, paid.from);
      bound = λ m h. omega (arith, ints, sum.hi, h, paid.bound);
      narrow = λ v w h one. sum.narrow v (c.args.count * w) h (paid.narrow w one);
      encloses = λ m n d h one. sum.encloses (pos m) (pos (c.args.count * n)) d h (paid.encloses n d one);
    }
