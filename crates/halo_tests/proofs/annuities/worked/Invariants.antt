-- The ledger of the call: the page that the blank opens.
use Rattle.halo_tests.proofs.annuities.worked.Given as goal

abbrev pub ghosts-assert_annuities : goal.ghosts-assert_annuities
ghosts-assert_annuities g a = record { name = a.blank.name; parts = a.blank.parts }
