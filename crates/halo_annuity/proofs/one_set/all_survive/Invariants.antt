use Rattle.std.proofs.Common.{◌+◌, ◌*◌, ◌≤◌}
use Rattle.halo_sums.specs.Masks.{bits}
use Rattle.halo_sums.specs.Sets.{size_of}
use Rattle.halo_num.specs.Chance.{EnclosesChance}
use Rattle.halo_life.specs.PlainGroup.{started, surviving}
use Rattle.halo_annuity.specs.SetProduct.{product_in}
use Rattle.halo_annuity.proofs.one_set.all_survive.Given as goal

abbrev pub invariant-loop-i : goal.invariant-loop-i
invariant-loop-i g l = record {
  chance : EnclosesChance (product_in (surviving l.group l.t) (bits l.i l.set))
      (product_in (started l.group) (bits l.i l.set)) (2 * size_of (bits l.i l.set)) l.chance;
  cost : l.steps ≤ l.initial.steps + size_of (bits l.i l.set);
}
