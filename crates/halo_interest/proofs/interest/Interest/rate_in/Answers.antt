use Rattle.std.proofs.Common.{◌<◌, length, take, ap, arith}
use Rattle.halo_interest.specs.Back.{count_back}
use Rattle.halo_interest.proofs.Keeping.{fraction_kept}
use Rattle.halo_interest.proofs.interest.Interest.rate_in.Goals as goal

pub offset_bounds-rates-place : goal.offset_bounds-rates-place
offset_bounds-rates-place c =
    let same = ap length c.self.view_is
    in let count = count_back c.self.inside.rates c.self.inside.count c.self.invariant
    in omega (arith, c.self.invariant.within)

pub returns-clause-fraction : goal.returns-clause-fraction
returns-clause-fraction c =
    let same = ap length c.self.view_is
    in let within : c.args.place < length (take c.self.inside.count c.self.inside.rates) = omega arith
    in fraction_kept c.self.inside.rates c.self.inside.count c.args.place _ c.self.invariant within
