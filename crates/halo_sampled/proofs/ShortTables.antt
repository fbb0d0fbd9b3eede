-- A sample's tables file is short.
use Rattle.std.proofs.Common.{ℕ, ◌^◌, ◌<◌, ◌≤◌, List, ap, arith, length, length-append, lit<}
use Rattle.std.specs.Fmt.{decimal}
use Rattle.std.proofs.lemmas.Fmt.{length-decimal-le}
use Rattle.std.proofs.lemmas.List.Concat.{length-flat_map}
use Rattle.std.proofs.lemmas.List.Sums.{sum_by-le}
use Rattle.halo_sample.specs.declared.tables.Row.{Row}
use Rattle.halo_sample.specs.declared.tables.TheConstants.{TABLES}
use Rattle.halo_sample.specs.Records.{record_line, row_fields, sample_records}
use Rattle.halo_sample.specs.Sample.{sample_tables}
use Rattle.halo_sample.proofs.RecordsByPlace.{records-are-counted}
use Rattle.halo_sample.proofs.SampleRecords.{tables-are-records}
use Rattle.halo_sampled.proofs.FineRows.{IsFineRow, records-all}

-- the line of a record has at most so many bytes
abbrev IsShortLine : List (List ℕ) → Type 0
IsShortLine fields = length (record_line fields) ≤ 100

-- a number up to 10^9 has at most ten digits
short : (n : ℕ) → n ≤ 10 ^ 9 → length (decimal n) ≤ 10
short n small = length-decimal-le 10 n (lit< tt) (omega (arith, small)) (omega (arith, small))

-- the line of a row has
row-short : (table : ℕ) (row : Row) → table < TABLES → IsFineRow row → IsShortLine (row_fields table row)
row-short table row known fine =
    simp length-append (omega (
      arith,
      short table (omega (arith, known)),
      short row.age (omega (arith, fine.age)),
      short row.alive (omega (arith, fine.most)),
      short row.deaths (omega (arith, fine.fits, fine.most)),
      short row.lapses (omega (arith, fine.fits, fine.most)),
    ))

-- so the tables file is short
pub tables-short : (number : ℕ) → length (sample_tables number) ≤ 16777216
tables-short number =
    omega (
      arith,
      ap length (tables-are-records number),
      length-flat_map record_line (sample_records number),
      sum_by-le (λ fields. length (record_line fields)) 100 (sample_records number)
          (records-all IsShortLine (omega arith) row-short number),
      records-are-counted number,
    )
