use Rattle.std.proofs.Common.{◌<◌, ◌≤◌, ◌^◌, rules, append_assoc, append-nil, arith, map, sym}
use Rattle.std.proofs.lemmas.List.{map-append}
use Rattle.std.proofs.lemmas.Result.{IfOk-equal, IfOk-weaker}
use Rattle.std.proofs.lemmas.List.Elements.{All-push}
use Rattle.std.proofs.Math.Nat.{pow-le-pow_right}
use Rattle.halo_sums.specs.Masks.{bits}
use Rattle.halo_sums.proofs.SetsInOrder.{sets_with-both, sets_with-none, sets_with-one}
use Rattle.halo_sums.proofs.order.+push_sets_with.Goals as goal

pub returns-then-more-eq0-clause-sets : goal.returns-then-more-eq0-clause-sets
returns-then-more-eq0-clause-sets t c =
    let one = sets_with-one c.args.number c.args.count c.args.set c.requires.number c.requires.set in
    rw (c.if-more-eq0.true, one, c.in_ok-push.ensures.items) (map-append (bits c.args.count) c.args.into.now.items _)

pub returns-then-count-number-clause-sets : goal.returns-then-count-number-clause-sets
returns-then-count-number-clause-sets t c =
    let none = sets_with-none c.args.number c.args.count c.args.set c.requires.number c.requires.set c.args.more
    (omega (arith, c.if-count-number.true)) in
    rw none (sym (append-nil (map (bits c.args.count) c.args.into.now.items)))

pub returns-clause-sets : goal.returns-clause-sets
returns-clause-sets t c =
    let both = sets_with-both c.args.number c.args.count c.args.set c.requires.number c.requires.set c.args.more
    (omega arith) (omega arith) in
    rw both (search (rules, IfOk-equal, append_assoc))

pub returns-then-more-eq0-clause-below : goal.returns-then-more-eq0-clause-below
returns-then-more-eq0-clause-below t c = λ all.
    let within : 2 ^ c.args.number ≤ 2 ^ c.args.count = pow-le-pow_right (omega arith) c.requires.number in
    rw c.in_ok-push.ensures.items
    (All-push (λ set. set < 2 ^ c.args.count) c.args.into.now.items c.args.set all
    (omega (arith, c.requires.set, within)))

pub returns-clause-below : goal.returns-clause-below
returns-clause-below t c =
    IfOk-weaker c.push_sets_with-2.result _ _ (λ done more all. more (c.in_ok-push_sets_with.ensures.below all))
    c.push_sets_with-2.ensures.below
