-- What was written and the names that are left make all names of the set.
use Rattle.std.proofs.Common.{◌≡◌, ◌++◌, drop}
use Rattle.halo_contract.specs.PlainContract.{life_names}
use Rattle.halo_spell.specs.Canonical.{names_in}
use Rattle.halo_report.proofs.SetNames.{names_behind}
use Rattle.halo_report.proofs.coefficient.write_set.Given as goal

abbrev pub invariant-loop-declared : goal.invariant-loop-declared
invariant-loop-declared l =
    l.into.items ++ names_behind l.before (names_in (life_names (drop l.declared-index l.lives)) l.left)
    ≡ l.fn.into.items ++ names_behind 32 (names_in (life_names l.lives) l.set)
