use Rattle.std.specs.Prelude.{All, Contains, map, take}
use Rattle.halo_contract.specs.PlainContract.{life_names}
use Rattle.halo_check.proofs.names.are_lives.Given as goal

abbrev pub invariant-loop-name : goal.invariant-loop-name
invariant-loop-name l =
    All (λ name. Contains (life_names l.lives) name) (map (λ name. name.now) (take l.name-index l.names))
