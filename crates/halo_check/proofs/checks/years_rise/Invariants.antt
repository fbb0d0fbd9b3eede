use Rattle.std.specs.Prelude.{◌+◌, ◌<◌, ℕ, map}
use Rattle.halo_check.specs.Checks.{year_at}
use Rattle.halo_syntax.specs.LineView.{plain_rate}
use Rattle.halo_check.proofs.checks.years_rise.Given as goal

abbrev pub invariant-loop-place : goal.invariant-loop-place
invariant-loop-place l =
    (i : ℕ) → i + 1 < l.place → year_at (map plain_rate l.rates) i < year_at (map plain_rate l.rates) (i + 1)
