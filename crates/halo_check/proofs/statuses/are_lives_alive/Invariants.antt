use Rattle.std.specs.Prelude.{map}
use Rattle.std.specs.List.{AllWithin}
use Rattle.halo_check.specs.Checks.{IsAliveIfNamed}
use Rattle.halo_check.proofs.statuses.are_lives_alive.Given as goal

abbrev pub invariant-loop-declared : goal.invariant-loop-declared
invariant-loop-declared l =
    AllWithin (IsAliveIfNamed l.tables (map (λ name. name.now) l.names) l.time) l.lives 0 l.declared-index
