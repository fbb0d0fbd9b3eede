use Rattle.std.proofs.Common.{refl, arith}
use Rattle.std.specs.Prelude.{Contains}
use Rattle.halo_contract.specs.PlainContract.{life_names}
use Rattle.halo_check.proofs.Each.{each_done, each_more, each_none, not_each}
use Rattle.halo_check.proofs.names.are_lives.Goals as goal

pub loop-name-init : goal.loop-name-init
loop-name-init c = each_none (λ name. Contains (life_names c.args.lives.now) name) (λ name. name.now) c.args.names.now

pub loop-name-preserved : goal.loop-name-preserved
loop-name-preserved c =
    each_more (λ name. Contains (life_names c.args.lives.now) name) (λ name. name.now) c.args.names.now
    c.loop-name.name-index _ c.loop-name-test.true (c.if-not-is_declared.ensures.0 refl) c.loop-name.invariant

pub returns-then-not-is_declared : goal.returns-then-not-is_declared
returns-then-not-is_declared c = (
  λ h. absurd cc,
  λ all. absurd (not_each (λ name. Contains (life_names c.args.lives.now) name) (λ name. name.now)
      c.args.names.now c.loop-name.name-index _ c.loop-name-test.true (λ has. cc (c.if-not-is_declared.ensures.1 has))
      all),
)

pub returns : goal.returns
returns c = (
  λ h. each_done (λ name. Contains (life_names c.args.lives.now) name) (λ name. name.now) c.args.names.now
      c.loop-name.name-index (omega (arith, c.loop-name-test.false)) c.loop-name.invariant,
  λ all. refl,
)
