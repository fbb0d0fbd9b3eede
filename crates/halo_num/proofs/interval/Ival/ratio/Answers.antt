use Rattle.std.proofs.Common.{rules, ◌*◌, ◌+ℤ◌, ◌≤ℤ◌, pos, arith}
use Rattle.std.proofs.lemmas.Int.{ints}
use Rattle.halo_num.specs.Ends.{fine}
use Rattle.halo_num.proofs.Rounded.{ordered, floor_ceiling}
use Rattle.halo_num.proofs.interval.Ival.ratio.Goals as goal

pub invariant_of-result : goal.invariant_of-result
invariant_of-result c =
    ordered _ _ (pos (c.args.n * fine)) (pos (c.args.n * fine)) c.args.d c.requires.from (search rules) (search rules)
    (omega (arith, ints))

pub returns-clause-narrow : goal.returns-clause-narrow
returns-clause-narrow c =
    let k : c.ratio_up.result ≤ℤ (c.ratio_down.result +ℤ pos 1) =
    floor_ceiling c.ratio_down.result c.ratio_up.result (pos (c.args.n * fine)) c.args.d c.requires.from
    (search rules) (search rules)
    in record { near = omega (arith, ints) }
