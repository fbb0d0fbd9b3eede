use Rattle.std.proofs.Common.{◌≡◌, ◌<◌, ℕ}
use Rattle.halo_table.specs.DecrementTable.{cause_of}
use Rattle.halo_table.proofs.held.Tables.cause.Given as goal

abbrev pub invariant-loop-number : goal.invariant-loop-number
invariant-loop-number l = (k : ℕ) → k < l.number → cause_of l.self k ≡ l.name → ⊥
