use Rattle.std.proofs.Common.{◌+◌, ℕ}
use Rattle.halo_interest.specs.Powers.{ArePowers}
use Rattle.halo_columns.specs.declared.entry.TheConstants.{GREATEST_DISCOUNTED}
use Rattle.halo_columns.specs.Entries.{columns_of, counted, counted_width}
use Rattle.halo_columns.proofs.OneByOne.{HasEntries, IsBegun}
use Rattle.halo_columns.proofs.column.column.Given as goal

abbrev pub invariant-loop-younger : goal.invariant-loop-younger
invariant-loop-younger l = record {
  begun : IsBegun GREATEST_DISCOUNTED l.younger l.column.items;
  entries : (p q : ℕ → ℕ) → ArePowers q (λ k. p k + q k) 0 l.powers
      → HasEntries (columns_of p q l.tables l.table) (counted (columns_of p q l.tables l.table) l.what)
      (counted_width (columns_of p q l.tables l.table) l.what) GREATEST_DISCOUNTED l.younger l.column.items;
}
