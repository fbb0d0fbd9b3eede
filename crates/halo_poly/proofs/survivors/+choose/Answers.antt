-- The parts with one thing and those without it.
use Rattle.std.proofs.Common.{arith}
use Rattle.halo_sums.proofs.Choices.{choose-le, choose-step}
use Rattle.halo_poly.proofs.survivors.+choose.Goals as goal

pub returns-else-n-eq0-clause-value : goal.returns-else-n-eq0-clause-value
returns-else-n-eq0-clause-value t c =
    omega (
      arith,
      c.choose.ensures.value,
      c.choose-else-n-eq0.ensures.value,
      choose-step c.args.n c.args.k (omega arith) (omega arith),
    )

pub returns-else-n-eq0-clause-small : goal.returns-else-n-eq0-clause-small
returns-else-n-eq0-clause-small t c =
    omega (
      arith,
      c.choose.ensures.value,
      c.choose-else-n-eq0.ensures.value,
      choose-step c.args.n c.args.k (omega arith) (omega arith),
      choose-le c.args.n c.args.k,
    )
