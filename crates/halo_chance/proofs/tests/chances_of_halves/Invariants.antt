-- The ledger of the call: the page that the blank opens.
use Rattle.halo_chance.proofs.tests.chances_of_halves.Given as goal

abbrev pub ghosts-check : goal.ghosts-check
ghosts-check g a = record { name = a.blank.name; parts = a.blank.parts }
