-- The ledger of the call: the page that the blank opens.
use Rattle.halo_top.proofs.columns.columns.Given as goal

abbrev pub ghosts-text_of_table : goal.ghosts-text_of_table
ghosts-text_of_table a = record { name = a.blank.name; parts = a.blank.parts }
