use Rattle.halo_table.proofs.Apart.{DifferUpTo}
use Rattle.halo_table.proofs.fields.are_apart.Given as goal

abbrev pub invariant-loop-place : goal.invariant-loop-place
invariant-loop-place l = DifferUpTo l.texts.items l.place
