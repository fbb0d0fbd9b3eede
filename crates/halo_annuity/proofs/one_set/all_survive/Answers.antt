use Rattle.std.proofs.Common.{◌≡◌, ℕ, suc, ◌+◌, ◌*◌, ◌≤◌, arith, subst}
use Rattle.halo_sums.specs.Masks.{bits}
use Rattle.halo_sums.specs.Sets.{size_of}
use Rattle.halo_num.specs.Chance.{EnclosesChance}
use Rattle.halo_life.specs.PlainGroup.{started, surviving}
use Rattle.halo_annuity.specs.SetProduct.{product_in}
use Rattle.halo_annuity.proofs.OneSet.{chance-more, size-more, sure}
use Rattle.halo_annuity.proofs.one_set.all_survive.Goals as goal

pub loop-i-init : goal.loop-i-init
loop-i-init g c = record {
  chance = sure c.exact-chance.result c.exact-chance.ensures.lo c.exact-chance.ensures.hi;
  cost = omega arith;
}

pub loop-i-preserved : goal.loop-i-preserved
loop-i-preserved g c =
    let i = c.loop-i.invariant in
    let next : suc c.loop-i.i ≡ c.loop-i.i + 1 = omega arith in
    let num = surviving c.args.group.now c.args.t in
    let den = started c.args.group.now in
    record {
      chance = subst (λ (k : ℕ). EnclosesChance (product_in num (bits k c.args.set))
          (product_in den (bits k c.args.set)) (2 * size_of (bits k c.args.set)) c.with_life-chance.result) next
          (chance-more num den c.loop-i.i c.args.set c.with_life-chance.result
          (c.with_life-chance.ensures.chance _ _ _ i.chance));
      cost = subst (λ (k : ℕ). c.with_life-chance.new.steps ≤ c.args.steps.now + size_of (bits k c.args.set)) next
          (omega (arith, c.with_life-chance.ensures.cost, i.cost, size-more c.loop-i.i c.args.set));
    }
