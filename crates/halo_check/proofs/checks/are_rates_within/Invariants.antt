use Rattle.std.specs.Prelude.{All, map, take}
use Rattle.halo_check.specs.Limits.{IsRateWithin}
use Rattle.halo_syntax.specs.LineView.{plain_rate}
use Rattle.halo_check.proofs.checks.are_rates_within.Given as goal

abbrev pub invariant-loop-rate : goal.invariant-loop-rate
invariant-loop-rate l = All IsRateWithin (map plain_rate (take l.rate-index l.rates))
