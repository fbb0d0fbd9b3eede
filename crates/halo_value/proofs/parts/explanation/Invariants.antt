-- The ledger of the call: the page that the blank opens.
use Rattle.halo_value.proofs.parts.explanation.Given as goal

abbrev pub ghosts-explained_counted : goal.ghosts-explained_counted
ghosts-explained_counted a = record { name = a.blank.name; parts = a.blank.parts }
