-- The ledger of the call: the page that the blank opens.
use Rattle.halo_tests.proofs.insurances_along.worked.Given as goal

abbrev pub ghosts-assert_insurances : goal.ghosts-assert_insurances
ghosts-assert_insurances g a = record { name = a.blank.name; parts = a.blank.parts }
