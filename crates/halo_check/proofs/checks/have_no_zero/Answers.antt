use Rattle.std.proofs.Common.{refl, arith}
use Rattle.halo_check.specs.Checks.{IsSome}
use Rattle.halo_syntax.specs.LineView.{plain_rate}
use Rattle.halo_syntax.specs.ProperLine.{IsProperRate}
use Rattle.halo_check.proofs.Each.{each_at, each_done, each_more, each_none, not_each}
use Rattle.halo_check.proofs.checks.have_no_zero.Goals as goal

pub loop-rate-init : goal.loop-rate-init
loop-rate-init c = each_none (λ rate. IsSome rate.year × IsSome rate.q) plain_rate c.args.rates.now

pub loop-rate-preserved : goal.loop-rate-preserved
loop-rate-preserved c =
    each_more (λ rate. IsSome rate.year × IsSome rate.q) plain_rate c.args.rates.now c.loop-rate.rate-index _
    c.loop-rate-test.true ((c.if-not-has_some.ensures
    (each_at IsProperRate plain_rate c.args.rates.now c.requires c.loop-rate.rate-index _
    c.loop-rate-test.true)).0 refl) c.loop-rate.invariant

pub returns-then-not-has_some : goal.returns-then-not-has_some
returns-then-not-has_some c = (
  λ h. absurd cc,
  λ all. absurd (not_each (λ rate. IsSome rate.year × IsSome rate.q) plain_rate c.args.rates.now
      c.loop-rate.rate-index _ c.loop-rate-test.true
      (λ some. cc ((c.if-not-has_some.ensures
      (each_at IsProperRate plain_rate c.args.rates.now c.requires c.loop-rate.rate-index _
      c.loop-rate-test.true)).1 some)) all),
)

pub returns : goal.returns
returns c = (
  λ h. each_done (λ rate. IsSome rate.year × IsSome rate.q) plain_rate c.args.rates.now c.loop-rate.rate-index
      (omega (arith, c.loop-rate-test.false)) c.loop-rate.invariant,
  λ all. refl,
)
