use Rattle.std.proofs.Common.{◌≡◌, ◌<◌, ℕ, get_or, map}
use Rattle.halo_table.specs.Seen.{seen_table}
use Rattle.halo_table.proofs.step.has_name.Given as goal

abbrev pub invariant-loop-table : goal.invariant-loop-table
invariant-loop-table l =
    (k : ℕ) → k < l.table-index
    → get_or (map (λ t. t.name) (map seen_table l.tables)) k l.name ≡ l.name → ⊥
