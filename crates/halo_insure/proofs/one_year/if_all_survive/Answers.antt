use Rattle.std.proofs.Common.{◌≡◌, ◌+◌, ◌*◌, arith}
use Rattle.std.proofs.lemmas.Int.{ints}
use Rattle.halo_insure.proofs.one_year.if_all_survive.Goals as goal

pub returns-clause-bound : goal.returns-clause-bound
returns-clause-bound g c = λ m h.
    let all = c.mul.ensures.bound m 1 h c.requires.survival.high in
    omega (arith, ints, all)

pub returns-clause-narrow : goal.returns-clause-narrow
returns-clause-narrow g c = λ m u e h p q.
    let whole : u * 1 + e * m + 1 ≡ u + e * m + 1 = omega arith in
    rw whole at (c.mul.ensures.width u e m 1 h c.requires.survival.high p q)
