use Rattle.std.proofs.Common.{refl, arith}
use Rattle.halo_check.specs.Limits.{IsShortName}
use Rattle.halo_check.proofs.Each.{each_done, each_more, each_none, not_each}
use Rattle.halo_check.proofs.limits.are_short_names.Goals as goal

pub loop-name-init : goal.loop-name-init
loop-name-init c = each_none IsShortName (λ name. name.now) c.args.names.now

pub loop-name-preserved : goal.loop-name-preserved
loop-name-preserved c =
    each_more IsShortName (λ name. name.now) c.args.names.now c.loop-name.name-index _ c.loop-name-test.true
    (c.if-not-is_short_name.ensures.0 refl) c.loop-name.invariant

pub returns-then-not-is_short_name : goal.returns-then-not-is_short_name
returns-then-not-is_short_name c = (
  λ h. absurd cc,
  λ all. absurd (not_each IsShortName (λ name. name.now) c.args.names.now c.loop-name.name-index _
      c.loop-name-test.true (λ short. cc (c.if-not-is_short_name.ensures.1 short)) all),
)

pub returns : goal.returns
returns c = (
  λ h. each_done IsShortName (λ name. name.now) c.args.names.now c.loop-name.name-index
      (omega (arith, c.loop-name-test.false)) c.loop-name.invariant,
  λ all. refl,
)
