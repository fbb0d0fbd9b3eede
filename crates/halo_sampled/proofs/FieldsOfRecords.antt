-- The fields of the records of a sample's tables file.
use Rattle.std.proofs.Common.{◌≡◌, ℕ, zero, suc, ◌+◌, ◌<◌, ◌≤◌, [], ◌∷◌, ap, arith, codes, get_or, refl, true}
use Rattle.std.proofs.lemmas.Fmt.{decimal_digit}
use Rattle.std.proofs.lemmas.List.Elements.{All-from_recursion}
use Rattle.halo_text.specs.Name.{IsName, is_name_byte}
use Rattle.halo_text.specs.Number.{IsNumber, number}
use Rattle.halo_table.specs.Faults.{HasLarge, HasOther}
use Rattle.halo_table.specs.Record.{IsHeader, IsNewCause, all_leavers, field, greatest_at}
use Rattle.halo_sample.specs.declared.tables.Row.{Row}
use Rattle.halo_sample.specs.declared.tables.TheConstants.{TABLES}
use Rattle.halo_sample.specs.Laws.{leavers}
use Rattle.halo_sample.specs.Records.{header_fields, row_fields}
use Rattle.halo_sampled.proofs.FineRows.{IsFineRow}
use Rattle.halo_sampled.proofs.NamesOfTables.{name_at}
use Rattle.halo_spell.proofs.NumbersBack.{IsNumber-decimal, number-decimal}

-- the causes of record 1
cause-new : (j : ℕ) → 3 ≤ j → j < 5 → IsNewCause header_fields j
cause-new zero low high = absurd (omega (arith, low))
cause-new (suc zero) low high = absurd (omega (arith, low))
cause-new (suc (suc zero)) low high = absurd (omega (arith, low))
cause-new (suc (suc (suc zero))) low high = record {
  name = record {
    some = omega arith;
    short = omega arith;
    letter = refl;
    bytes = All-from_recursion (λ byte. is_name_byte byte ≡ true) (codes "death")
        (refl, (refl, (refl, (refl, (refl, tt)))));
  };
  apart = λ i from below. absurd (omega (arith, from, below));
}
cause-new (suc (suc (suc (suc zero)))) low high = record {
  name = record {
    some = omega arith;
    short = omega arith;
    letter = refl;
    bytes = All-from_recursion (λ byte. is_name_byte byte ≡ true) (codes "lapse")
        (refl, (refl, (refl, (refl, (refl, tt)))));
  };
  apart = λ i from below same.
      let third : i ≡ 3 = omega (arith, from, below) in
      let letters : 100 ≡ 108 = ap (λ name. get_or name 0 0) (rw third at same) in
      absurd (omega (arith, letters));
}
cause-new (suc (suc (suc (suc (suc j))))) low high = absurd (omega (arith, high))

-- record 1 is as it has to be
pub header-fine : IsHeader header_fields
header-fine = record {
  some_cause = omega arith;
  table = refl;
  age = refl;
  survivors = refl;
  causes = cause-new;
}

-- the digits of small numbers may stand in a name
digit-in_name : (n : ℕ) → n < TABLES → is_name_byte (48 + n) ≡ true
digit-in_name zero known = refl
digit-in_name (suc zero) known = refl
digit-in_name (suc (suc zero)) known = refl
digit-in_name (suc (suc (suc zero))) known = refl
digit-in_name (suc (suc (suc (suc n)))) known = absurd (omega (arith, known))

-- the names of the tables are names
pub name-fine : (table : ℕ) → table < TABLES → IsName (name_at table)
name-fine table known =
    rw (decimal_digit table (omega (arith, known))) (record {
      some = omega arith;
      short = omega arith;
      letter = refl;
      bytes = All-from_recursion (λ byte. is_name_byte byte ≡ true) (116 ∷ (48 + table) ∷ [])
          (refl, (digit-in_name table known, tt));
    })

module _ (table : ℕ) (row : Row) (fine : IsFineRow row) where
  -- the other fields of a row are numbers
  pub none-other : HasOther 5 (row_fields table row) → ⊥
  none-other (j, from, below, other) = other (by j from below)
    where
      by : (j : ℕ) → 1 ≤ j → j < 5 → IsNumber (field (row_fields table row) j)
      by zero from below = absurd (omega (arith, from))
      by (suc zero) from below = IsNumber-decimal row.age (omega (arith, fine.age))
      by (suc (suc zero)) from below = IsNumber-decimal row.alive (omega (arith, fine.most))
      by (suc (suc (suc zero))) from below = IsNumber-decimal row.deaths (omega (arith, fine.fits, fine.most))
      by (suc (suc (suc (suc zero)))) from below = IsNumber-decimal row.lapses (omega (arith, fine.fits, fine.most))
      by (suc (suc (suc (suc (suc j))))) from below = absurd (omega (arith, below))

  -- that of the age is its age
  pub age-read : number (field (row_fields table row) 1) ≡ row.age
  age-read = number-decimal row.age (omega (arith, fine.age))

  -- that of those alive is their number
  pub alive-read : number (field (row_fields table row) 2) ≡ row.alive
  alive-read = number-decimal row.alive (omega (arith, fine.most))

  -- that of the deaths is theirs
  deaths-read : number (field (row_fields table row) 3) ≡ row.deaths
  deaths-read = number-decimal row.deaths (omega (arith, fine.fits, fine.most))

  -- and that of the lapses theirs
  lapses-read : number (field (row_fields table row) 4) ≡ row.lapses
  lapses-read = number-decimal row.lapses (omega (arith, fine.fits, fine.most))

  -- the last two are those who leave
  pub leavers-read : all_leavers (row_fields table row) ≡ leavers row
  leavers-read = rw (deaths-read, lapses-read) (omega arith)

  -- none is too large
  pub none-large : HasLarge 5 (row_fields table row) → ⊥
  none-large (j, from, below, large) = by j from below large
    where
      by : (j : ℕ) → 1 ≤ j → j < 5 → greatest_at j < number (field (row_fields table row) j) → ⊥
      by zero from below large = absurd (omega (arith, from))
      by (suc zero) from below large = absurd (omega (arith, large, age-read, fine.age))
      by (suc (suc zero)) from below large = absurd (omega (arith, large, alive-read, fine.most))
      by (suc (suc (suc zero))) from below large =
          absurd (omega (arith, large, deaths-read, fine.fits, fine.most))
      by (suc (suc (suc (suc zero)))) from below large =
          absurd (omega (arith, large, lapses-read, fine.fits, fine.most))
      by (suc (suc (suc (suc (suc j))))) from below large = absurd (omega (arith, below))
