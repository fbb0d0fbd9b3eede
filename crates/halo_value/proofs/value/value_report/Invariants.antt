-- The ledger of the call: the page that the blank opens.
use Rattle.halo_value.proofs.value.value_report.Given as goal

abbrev pub ghosts-report_counted : goal.ghosts-report_counted
ghosts-report_counted a = record { name = a.blank.name; parts = a.blank.parts }
