use Rattle.halo_columns.proofs.Sums.{IsSummed}
use Rattle.halo_columns.proofs.column.running_sums.Given as goal

abbrev pub invariant-loop-entry : goal.invariant-loop-entry
invariant-loop-entry l = IsSummed l.column l.sums.items l.entry-index l.sum
