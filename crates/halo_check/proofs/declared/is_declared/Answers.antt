use Rattle.halo_check.proofs.Places.{life_told}
use Rattle.halo_check.proofs.declared.is_declared.Goals as goal

pub returns : goal.returns
returns c =
    rw c.is_some.ensures (life_told c.args.lives.now c.args.name.now c.place_of_life.result c.place_of_life.ensures.some
    c.place_of_life.ensures.none)
