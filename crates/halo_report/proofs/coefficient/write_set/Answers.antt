-- The empty set is written as 1, and every other one by its names.
use Rattle.std.proofs.Common.{◌≡◌, ◌≤◌, [], ◌++◌, append-nil, arith, drop, length, ap, ◌∙◌}
use Rattle.std.proofs.lemmas.List.{drop_all}
use Rattle.halo_contract.specs.PlainContract.{life_names}
use Rattle.halo_report.proofs.SetNames.{empty_set, set_named}
use Rattle.halo_report.proofs.coefficient.write_set.Goals as goal

pub returns-then-set-eq0 : goal.returns-then-set-eq0
returns-then-set-eq0 c =
    rw (c.if-set-eq0.true, empty_set (length c.args.lives.now) (life_names c.args.lives.now)) c.write_bytes.ensures

pub returns : goal.returns
returns c =
    let some : 1 ≤ c.args.set = omega arith in
    let none : drop c.loop-declared.declared-index c.args.lives.now ≡ [] =
    drop_all c.loop-declared.declared-index c.args.lives.now (omega arith) in
    (rw (none, append-nil) at c.loop-declared.invariant)
    ∙ ap (λ bs. c.args.into.now.items ++ bs) (set_named c.args.lives.now c.args.set some c.requires)
