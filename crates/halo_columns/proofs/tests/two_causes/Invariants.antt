-- The ledger of the call: the page that the blank opens.
use Rattle.halo_columns.proofs.tests.two_causes.Given as goal

abbrev pub ghosts-assert_by_cause : goal.ghosts-assert_by_cause
ghosts-assert_by_cause g a = record { name = a.blank.name; parts = a.blank.parts }
