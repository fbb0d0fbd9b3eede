-- The ledger of the call: the page that the blank opens.
use Rattle.halo_lines.proofs.tests.premium_and_reserves.Given as goal

abbrev pub ghosts-assert_premium_and_reserves : goal.ghosts-assert_premium_and_reserves
ghosts-assert_premium_and_reserves g a = record { name = a.blank.name; parts = a.blank.parts }
