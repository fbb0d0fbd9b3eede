-- The ledger of the call: the page that the blank opens.
use Rattle.halo_reserve.proofs.tests.reserves.Given as goal

abbrev pub ghosts-assert_reserves : goal.ghosts-assert_reserves
ghosts-assert_reserves g a = record { name = a.blank.name; parts = a.blank.parts }
