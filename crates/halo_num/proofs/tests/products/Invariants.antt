-- The ledger of the call: the page that the blank opens.
use Rattle.halo_num.proofs.tests.products.Given as goal

abbrev pub ghosts-counted_ends : goal.ghosts-counted_ends
ghosts-counted_ends g a = record { name = a.blank.name; parts = a.blank.parts }
