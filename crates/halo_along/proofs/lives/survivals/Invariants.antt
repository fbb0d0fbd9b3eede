use Rattle.halo_chance.specs.Enclosed.{EachIsChance}
use Rattle.halo_along.specs.Lives.{EncloseSurvival}
use Rattle.halo_along.proofs.lives.survivals.Given as goal

abbrev pub invariant-loop-i : goal.invariant-loop-i
invariant-loop-i g l = record {
  chances : EachIsChance 12 l.survivals;
  survivals : EncloseSurvival l.group l.t l.i l.survivals;
}
