use Rattle.halo_chance.specs.Enclosed.{EachIsChance}
use Rattle.halo_along.specs.Leavings.{EncloseLookedAt}
use Rattle.halo_along.proofs.leaving.looked_at.Given as goal

abbrev pub invariant-loop-i : goal.invariant-loop-i
invariant-loop-i g l = record {
  chances : EachIsChance 12 l.lives;
  looked_at : EncloseLookedAt l.group l.life l.k l.i l.lives;
}
