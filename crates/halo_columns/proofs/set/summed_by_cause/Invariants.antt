use Rattle.std.proofs.Common.{◌+◌, ℕ}
use Rattle.halo_interest.specs.Powers.{ArePowers}
use Rattle.halo_columns.specs.Entries.{columns_of}
use Rattle.halo_columns.specs.Summed.{AreSummedByCause}
use Rattle.halo_columns.proofs.set.summed_by_cause.Given as goal

abbrev pub invariant-loop-cause : goal.invariant-loop-cause
invariant-loop-cause l =
    (p q : ℕ → ℕ) → ArePowers q (λ k. p k + q k) 0 l.powers
    → AreSummedByCause (columns_of p q l.tables l.table) l.cause l.by_cause.items
