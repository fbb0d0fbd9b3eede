-- What a line has that passes the checks before those of statuses.
use Rattle.std.proofs.Common.{lit<}
use Rattle.halo_table.specs.DecrementTable.{TableFile}
use Rattle.halo_check.specs.Checks.{HasLives, HasNoZero, HasRisingYears, HasTable, IsWithinLimits}
use Rattle.halo_check.specs.Draft.{Draft}
use Rattle.halo_syntax.specs.Line.{Line}
use Rattle.halo_check.specs.Checked.{PassesBefore}
use Rattle.halo_check.specs.declared.fault.ContractKind.TheVariants as kind

module _ (tables : TableFile) (d : Draft) (l : Line) (passes : PassesBefore tables d l kind.Rank) where
  pub within : IsWithinLimits d l
  within = passes kind.Magnitude (lit< tt)

  pub no_zero : HasNoZero l
  no_zero = passes kind.Zero (lit< tt)

  pub rising : HasRisingYears l
  rising = passes kind.Years (lit< tt)

  pub table : HasTable tables l
  table = passes kind.NoTable (lit< tt)

  pub lives : HasLives d l
  lives = passes kind.NoLife (lit< tt)
