-- The records of a sample's tables file are read from it.
use Rattle.std.proofs.Common.{◌≡◌, ◌==◌, ℕ, ◌^◌, ◌<◌, [], ◌∷◌, ◌++◌, ap, arith, codes, false, refl, ◌∙◌}
use Rattle.std.specs.Fmt.{decimal}
use Rattle.std.proofs.lemmas.Bool.{ne_eqb}
use Rattle.std.proofs.lemmas.List.Elements.{All-from_recursion, All-weaker}
use Rattle.std.proofs.lemmas.List.Folds.{list_any_none}
use Rattle.csv.specs.Reading.{strip_bom}
use Rattle.csv.specs.Writing.{default_writer, needs_byte}
use Rattle.halo_records.specs.Records.{records_of}
use Rattle.halo_text.specs.Number.{IsDigit}
use Rattle.halo_sample.specs.declared.tables.Row.{Row}
use Rattle.halo_sample.specs.declared.tables.TheConstants.{TABLES}
use Rattle.halo_sample.specs.Records.{header_fields, row_fields, sample_records}
use Rattle.halo_sample.specs.Sample.{sample_tables}
use Rattle.halo_sample.proofs.SampleRecords.{tables-are-records}
use Rattle.halo_sampled.proofs.FineRows.{IsFineRow, records-all}
use Rattle.halo_spell.proofs.NumbersBack.{IsNumber-decimal}
use Rattle.halo_sampled.proofs.ReadRecords.{IsPlain, IsReadBack, lines-read_back, plain-read_back}

-- a digit calls for no quotes
digit-plain : (byte : ℕ) → IsDigit byte → needs_byte default_writer byte ≡ false
digit-plain byte digit =
    let other : (mark : ℕ) → mark < 48 → (byte == mark) ≡ false
    = λ mark below. ne_eqb byte mark (λ same. absurd (omega (arith, digit.0, same, below))) in
    rw (other 44 (omega arith), other 34 (omega arith), other 13 (omega arith), other 10 (omega arith)) refl

-- nor does a number
number-plain : (n : ℕ) → n < 2 ^ 64 → IsPlain (decimal n)
number-plain n small =
    list_any_none (needs_byte default_writer) (decimal n)
    (All-weaker IsDigit (λ byte. needs_byte default_writer byte ≡ false) digit-plain (decimal n)
    (IsNumber-decimal n small).1)

-- the record of a row is read back
row-read_back : (table : ℕ) (row : Row) → table < TABLES → IsFineRow row → IsReadBack (row_fields table row)
row-read_back table row known fine =
    plain-read_back (codes "t" ++ decimal table) (decimal row.age)
    (decimal row.alive ∷ decimal row.deaths ∷ decimal row.lapses ∷ [])
    (All-from_recursion IsPlain (row_fields table row) (
      number-plain table (omega (arith, known)),
      (
        number-plain row.age (omega (arith, fine.age)),
        (
          number-plain row.alive (omega (arith, fine.most)),
          (
            number-plain row.deaths (omega (arith, fine.fits, fine.most)),
            (number-plain row.lapses (omega (arith, fine.fits, fine.most)), tt),
          ),
        ),
      ),
    ))

-- and so is record 1
header-read_back : IsReadBack header_fields
header-read_back =
    plain-read_back (codes "table") (codes "age") (codes "l" ∷ codes "death" ∷ codes "lapse" ∷ [])
    (All-from_recursion IsPlain header_fields (refl, (refl, (refl, (refl, (refl, tt))))))

-- the records of the tables file
pub records-read : (number : ℕ) → records_of (sample_tables number) ≡ sample_records number
unfolding strip_bom
records-read number =
    ap records_of (tables-are-records number)
    ∙ lines-read_back (sample_records number)
    (records-all IsReadBack header-read_back row-read_back number)
