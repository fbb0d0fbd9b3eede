-- What was written and the lines that are left make all lines.
use Rattle.std.proofs.Common.{◌≡◌, ◌++◌, drop, map}
use Rattle.halo_spell.specs.ContractText.{life_line, lines_text}
use Rattle.halo_spell.proofs.lines.write_lives.Given as goal

abbrev pub invariant-loop-declared : goal.invariant-loop-declared
invariant-loop-declared l =
    l.into.items ++ lines_text (map (life_line l.tables) (drop l.declared-index l.lives))
    ≡ l.fn.into.items ++ lines_text (map (life_line l.tables) l.lives)
