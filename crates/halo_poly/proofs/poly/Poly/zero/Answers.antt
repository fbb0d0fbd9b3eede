-- Nothing is added up.
use Rattle.std.proofs.Common.{rules}
use Rattle.halo_poly.proofs.Values.{value_of_none}
use Rattle.halo_poly.proofs.poly.Poly.zero.Goals as goal

pub returns-clause-values : goal.returns-clause-values
returns-clause-values g c = value_of_none g.row.M _ (search rules)
