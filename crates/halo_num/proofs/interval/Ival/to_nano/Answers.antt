use Rattle.std.proofs.Common.{rules}
use Rattle.halo_num.proofs.Rounded.{printed_encloses}
use Rattle.halo_num.proofs.Widths.{width_printed}
use Rattle.halo_num.proofs.interval.Ival.to_nano.Goals as goal

pub returns-clause-encloses : goal.returns-clause-encloses
returns-clause-encloses c = λ n d p. printed_encloses c.args.self _ _ n d (search rules) (search rules) p

pub returns-clause-narrow : goal.returns-clause-narrow
returns-clause-narrow c = λ w p. width_printed _ _ c.args.self.lo c.args.self.hi w (search rules) (search rules) p.near
