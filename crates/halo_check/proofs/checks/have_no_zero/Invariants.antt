use Rattle.std.specs.Prelude.{All, map, take}
use Rattle.halo_check.specs.Checks.{IsSome}
use Rattle.halo_syntax.specs.LineView.{plain_rate}
use Rattle.halo_check.proofs.checks.have_no_zero.Given as goal

abbrev pub invariant-loop-rate : goal.invariant-loop-rate
invariant-loop-rate l = All (λ rate. IsSome rate.year × IsSome rate.q) (map plain_rate (take l.rate-index l.rates))
