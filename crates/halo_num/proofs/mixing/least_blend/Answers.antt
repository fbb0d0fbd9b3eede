use Rattle.std.proofs.Common.{rules, arith}
use Rattle.std.proofs.lemmas.Int.{ints, clamps, to_z-of_z}
use Rattle.halo_num.proofs.Rounded.{floor_at}
use Rattle.halo_num.proofs.mixing.least_blend.Goals as goal

pub blend_down-requires-clause-from : goal.blend_down-requires-clause-from
blend_down-requires-clause-from c = omega (arith, ints, clamps)

pub blend_down-requires-clause-to : goal.blend_down-requires-clause-to
blend_down-requires-clause-to c = omega (arith, ints, clamps)

pub returns-clause-floor : goal.returns-clause-floor
returns-clause-floor c = floor_at _ c.min-least.result _ _ (search rules) (search (rules, to_z-of_z))
