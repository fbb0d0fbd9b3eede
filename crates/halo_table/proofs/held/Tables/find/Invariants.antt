use Rattle.std.proofs.Common.{◌≡◌, ◌<◌, ℕ}
use Rattle.halo_table.specs.DecrementTable.{name_of}
use Rattle.halo_table.proofs.held.Tables.find.Given as goal

abbrev pub invariant-loop-place : goal.invariant-loop-place
invariant-loop-place l = (k : ℕ) → k < l.place → name_of l.self k ≡ l.name → ⊥
