use Rattle.halo_premium.proofs.Totals.{total-bound}
use Rattle.halo_premium.proofs.add_pay.Goals as goal

pub returns-clause-bound : goal.returns-clause-bound
returns-clause-bound c a b sum_in value_in =
    rw (c.add.ensures.hi, c.multiple.ensures.hi)
    (total-bound c.args.sum.hi c.args.value.hi c.args.amount a b sum_in value_in)
