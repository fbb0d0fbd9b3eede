-- What was written and the names that are left make the whole set.
use Rattle.std.proofs.Common.{◌≡◌, ◌++◌}
use Rattle.halo_symbol.specs.Characters.{brace_open}
use Rattle.halo_spell.proofs.CausesLeft.{names_from, set_bytes}
use Rattle.halo_spell.proofs.symbol.write_causes.Given as goal

abbrev pub invariant-loop-cause : goal.invariant-loop-cause
invariant-loop-cause l =
    l.into.items ++ set_bytes l.before (names_from l.tables.causes l.mask l.cause)
    ≡ l.fn.into.items ++ set_bytes brace_open (names_from l.tables.causes l.mask 0)
