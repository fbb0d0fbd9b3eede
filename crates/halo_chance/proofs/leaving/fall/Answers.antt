use Rattle.std.proofs.Common.{rules, arith}
use Rattle.std.proofs.lemmas.Int.{clamps, ints, to_z-of_z}
use Rattle.halo_chance.proofs.Losses.{fall-clamped, falls-far}
use Rattle.halo_chance.proofs.leaving.fall.Goals as goal

pub returns-then-hi-lt0-clause-chance : goal.returns-then-hi-lt0-clause-chance
returns-then-hi-lt0-clause-chance c = λ n m d v w positive small a b.
    absurd (let far =
    falls-far n m d v w c.args.from c.args.to positive small a b in let high =
    c.sub-difference.ensures.hi in let value =
    c.hi.ensures.value in omega (arith, ints, to_z-of_z, far, high, value, c.if-hi-lt0.true))

pub returns-else-hi-lt0-clause-chance : goal.returns-else-hi-lt0-clause-chance
returns-else-hi-lt0-clause-chance c = λ n m d v w positive small a b.
    fall-clamped n m d v w c.args.from c.args.to c.sub-difference.result c.clamp.result positive small a b
    (search rules) (search rules) (search rules) (search rules) c.clamp.ensures.encloses

pub returns-else-hi-lt0-clause-within : goal.returns-else-hi-lt0-clause-within
returns-else-hi-lt0-clause-within c =
    record {
      low =
          omega (arith, ints, clamps, c.clamp.ensures.lo);
      high =
          omega (arith, ints, clamps, c.clamp.ensures.hi);
    }
