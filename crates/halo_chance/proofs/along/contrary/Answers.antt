use Rattle.std.proofs.Common.{rules}
use Rattle.halo_chance.proofs.Enclosing.{contrary-enclosed}
use Rattle.halo_chance.proofs.along.contrary.Goals as goal

pub returns-clause-chance : goal.returns-clause-chance
returns-clause-chance c =
    λ n d w positive e.
    contrary-enclosed n d w c.args.chance c.exact.result c.sub.result positive e (search rules) (search rules)
    (search rules) (search rules)
