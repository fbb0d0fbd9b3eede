-- What was written and the names that are left make all names of the set.
use Rattle.std.proofs.Common.{◌≡◌, ◌++◌, drop}
use Rattle.halo_contract.specs.PlainContract.{life_names}
use Rattle.halo_spell.specs.Canonical.{names_in}
use Rattle.halo_spell.specs.LineText.{names_text}
use Rattle.halo_spell.proofs.lines.write_names.Given as goal

abbrev pub invariant-loop-declared : goal.invariant-loop-declared
invariant-loop-declared l =
    l.into.items ++ names_text (names_in (life_names (drop l.declared-index l.lives)) l.left)
    ≡ l.fn.into.items ++ names_text (names_in (life_names l.lives) l.alive)
