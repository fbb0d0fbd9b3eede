use Rattle.std.proofs.Common.{◌-◌}
use Rattle.halo_sums.proofs.order.+push_sets_with.Given as goal

abbrev pub decreases-push_sets_with : goal.decreases-push_sets_with
decreases-push_sets_with l = l.count - l.number
