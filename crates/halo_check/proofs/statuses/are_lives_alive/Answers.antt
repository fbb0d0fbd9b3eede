use Rattle.std.proofs.Common.{arith, map, refl}
use Rattle.std.proofs.lemmas.List.Elements.{AllWithin-none}
use Rattle.halo_check.specs.Checks.{IsAliveIfNamed}
use Rattle.halo_check.proofs.Each.{each_item}
use Rattle.halo_check.proofs.statuses.are_lives_alive.Goals as goal

pub loop-declared-init : goal.loop-declared-init
loop-declared-init c =
    let names = map (λ name. name.now) c.args.names.now in
    AllWithin-none (IsAliveIfNamed c.args.tables.now names c.args.time) c.args.lives.now 0

pub returns-then-not-is_alive_if_named : goal.returns-then-not-is_alive_if_named
returns-then-not-is_alive_if_named c =
    let l = c.loop-declared in (
      λ h. absurd cc,
      λ all. let here = all l.declared-index c.declared-item.result c.loop-declared-test.true in
          cc (c.if-not-is_alive_if_named.ensures.1 (rw (← c.declared-item.is) at here)),
    )

pub loop-declared-preserved : goal.loop-declared-preserved
loop-declared-preserved c =
    let l = c.loop-declared in
    let item = c.declared-item in
    let names = map (λ name. name.now) c.args.names.now in
    each_item (IsAliveIfNamed c.args.tables.now names c.args.time) c.args.lives.now l.declared-index item.result
    c.loop-declared-test.true item.is l.invariant (c.if-not-is_alive_if_named.ensures.0 refl)

pub returns : goal.returns
returns c =
    let l = c.loop-declared in
    (λ h k d lt. l.invariant k d (omega arith) (omega (arith, lt, c.loop-declared-test.false)), λ all. refl)
