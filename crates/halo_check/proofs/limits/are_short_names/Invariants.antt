use Rattle.std.specs.Prelude.{All, map, take}
use Rattle.halo_check.specs.Limits.{IsShortName}
use Rattle.halo_check.proofs.limits.are_short_names.Given as goal

abbrev pub invariant-loop-name : goal.invariant-loop-name
invariant-loop-name l = All IsShortName (map (λ name. name.now) (take l.name-index l.names))
