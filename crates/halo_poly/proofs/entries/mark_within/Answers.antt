-- Each mark is written at its set, from one set within the named lives to the next.
use Rattle.std.proofs.Common.{◌≡◌, arith, rules}
use Rattle.halo_sums.proofs.Within.{within-below}
use Rattle.halo_poly.proofs.Walks.{come_first, come_last, come_next, come_to}
use Rattle.halo_poly.proofs.entries.mark_within.Goals as goal

pub loop-set-init : goal.loop-set-init
loop-set-init c = come_first c.args.named _ c.args.values.now _ (omega arith) (search rules)

pub next_within-set-requires-clause-within : goal.next_within-set-requires-clause-within
next_within-set-requires-clause-within c = c.loop-set.invariant.within

pub loop-set-preserved : goal.loop-set-preserved
loop-set-preserved c =
    come_next c.args.named _ c.args.values.now c.loop-set.values c.loop-set.set c.next_within-set.result
    c.loop-set.invariant _ c.next_within-set.ensures.within
    (omega (arith, within-below c.next_within-set.result c.args.named c.next_within-set.ensures.within))
    (come_to c.args.named _ c.args.values.now c.loop-set.values c.loop-set.set c.next_within-set.result
    c.loop-set.invariant c.next_within-set.ensures.later c.next_within-set.ensures.next)
    (search rules)

pub returns-clause-marks : goal.returns-clause-marks
returns-clause-marks c =
    let last : c.loop-set.set ≡ c.args.named = omega arith in
    come_last c.args.named _ c.args.values.now c.loop-set.values (rw last at c.loop-set.invariant)
