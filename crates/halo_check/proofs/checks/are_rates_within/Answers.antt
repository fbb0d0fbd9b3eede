use Rattle.std.proofs.Common.{refl, arith}
use Rattle.halo_check.specs.Limits.{IsRateWithin}
use Rattle.halo_syntax.specs.LineView.{plain_rate}
use Rattle.halo_syntax.specs.ProperLine.{IsProperRate}
use Rattle.halo_check.proofs.Each.{each_at, each_done, each_more, each_none, not_each}
use Rattle.halo_check.proofs.checks.are_rates_within.Goals as goal

pub loop-rate-init : goal.loop-rate-init
loop-rate-init c = each_none IsRateWithin plain_rate c.args.rates.now

pub loop-rate-preserved : goal.loop-rate-preserved
loop-rate-preserved c =
    each_more IsRateWithin plain_rate c.args.rates.now c.loop-rate.rate-index _ c.loop-rate-test.true
    ((c.if-not-is_rate_within.ensures (each_at IsProperRate plain_rate c.args.rates.now c.requires
    c.loop-rate.rate-index _ c.loop-rate-test.true)).0 refl) c.loop-rate.invariant

pub returns-then-not-is_rate_within : goal.returns-then-not-is_rate_within
returns-then-not-is_rate_within c = (
  λ h. absurd cc,
  λ all. absurd (not_each IsRateWithin plain_rate c.args.rates.now c.loop-rate.rate-index _
      c.loop-rate-test.true (λ within. cc ((c.if-not-is_rate_within.ensures
      (each_at IsProperRate plain_rate c.args.rates.now c.requires c.loop-rate.rate-index _
      c.loop-rate-test.true)).1 within)) all),
)

pub returns : goal.returns
returns c = (
  λ h. each_done IsRateWithin plain_rate c.args.rates.now c.loop-rate.rate-index
      (omega (arith, c.loop-rate-test.false)) c.loop-rate.invariant,
  λ all. refl,
)
