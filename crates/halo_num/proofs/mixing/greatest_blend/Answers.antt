use Rattle.std.proofs.Common.{rules, arith}
use Rattle.std.proofs.lemmas.Int.{ints, clamps, to_z-of_z}
use Rattle.halo_num.proofs.Rounded.{ceiling_at}
use Rattle.halo_num.proofs.mixing.greatest_blend.Goals as goal

pub blend_up-requires-clause-from : goal.blend_up-requires-clause-from
blend_up-requires-clause-from c = omega (arith, ints, clamps)

pub blend_up-requires-clause-to : goal.blend_up-requires-clause-to
blend_up-requires-clause-to c = omega (arith, ints, clamps)

pub returns-clause-ceiling : goal.returns-clause-ceiling
returns-clause-ceiling c = ceiling_at _ c.max-greatest.result _ _ (search rules) (search (rules, to_z-of_z))
