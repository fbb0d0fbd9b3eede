use Rattle.std.specs.Prelude.{All, Contains, map, take}
use Rattle.halo_check.proofs.names.are_causes.Given as goal

abbrev pub invariant-loop-name : goal.invariant-loop-name
invariant-loop-name l = All (λ name. Contains l.tables.causes name) (map (λ name. name.now) (take l.name-index l.names))
