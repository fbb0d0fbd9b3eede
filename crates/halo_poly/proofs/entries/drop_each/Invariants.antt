-- The places before this one are written.
use Rattle.halo_poly.specs.Transform.{with_life}
use Rattle.halo_poly.proofs.Steps.{HasPassed}
use Rattle.halo_poly.proofs.entries.drop_each.Given as goal

abbrev pub invariant-loop-mask : goal.invariant-loop-mask
invariant-loop-mask l = HasPassed (with_life l.values l.life) l.fn.into l.into l.mask
