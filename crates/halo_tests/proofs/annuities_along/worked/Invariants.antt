-- The ledger of the call: the page that the blank opens.
use Rattle.halo_tests.proofs.annuities_along.worked.Given as goal

abbrev pub ghosts-assert_worked : goal.ghosts-assert_worked
ghosts-assert_worked g a = record { name = a.blank.name; parts = a.blank.parts }
