use Rattle.halo_contract.specs.PlainContract.{life_names}
use Rattle.halo_check.proofs.PlacesOfLives.{NoneBefore}
use Rattle.halo_check.proofs.declared.place_of_life.Given as goal

abbrev pub invariant-loop-place : goal.invariant-loop-place
invariant-loop-place l = NoneBefore (life_names l.lives) l.place l.name
