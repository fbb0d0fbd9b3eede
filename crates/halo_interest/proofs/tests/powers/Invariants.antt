-- The ledger of the call: the page that the blank opens.
use Rattle.halo_interest.proofs.tests.powers.Given as goal

abbrev pub ghosts-counted_powers : goal.ghosts-counted_powers
ghosts-counted_powers g a = record { name = a.blank.name; parts = a.blank.parts }
