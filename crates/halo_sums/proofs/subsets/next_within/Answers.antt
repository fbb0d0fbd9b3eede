use Rattle.halo_sums.proofs.Within.{next-first, next-within}
use Rattle.halo_sums.proofs.subsets.next_within.Goals as goal

pub returns-clause-within : goal.returns-clause-within
returns-clause-within c = next-within 16 c.args.set c.args.whole c.ranges.whole.fits c.requires.within

pub returns-clause-next : goal.returns-clause-next
returns-clause-next c = next-first 16 c.args.set c.args.whole c.ranges.whole.fits c.requires.within
