-- What was written and the fractions that are left make the whole line.
use Rattle.std.proofs.Common.{◌≡◌, ◌++◌, drop}
use Rattle.halo_spell.proofs.LinesLeft.{later_text}
use Rattle.halo_spell.proofs.interest.write_interest.Given as goal

abbrev pub invariant-loop-place : goal.invariant-loop-place
invariant-loop-place l =
    l.into.items ++ later_text (drop l.place l.interest) ≡ l.initial.into.items ++ later_text (drop 1 l.interest)
