-- The weight is at least 1.
use Rattle.std.proofs.Common.{arith, map}
use Rattle.halo_compile.specs.Weight.{segment_weight}
use Rattle.halo_compile.proofs.Weights.{at_least_one}
use Rattle.halo_compile.proofs.form.Form.weight.Goals as goal

pub loop-i-init : goal.loop-i-init
loop-i-init g c =
    record {
      some =
          omega arith;
      greatest =
          omega (arith, at_least_one (map segment_weight c.self.inside.segments.items));
    }
