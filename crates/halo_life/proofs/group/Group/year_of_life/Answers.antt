use Rattle.std.proofs.Common.{◌≡◌, ◌+◌, ◌≤◌, suc, cond, arith, ap, ◌∙◌}
use Rattle.halo_model.specs.Chance.{asked}
use Rattle.halo_life.specs.PlainGroup.{leavers_of_life, survivors_in}
use Rattle.halo_life.proofs.YearChances.{counted-less, parts-together}
use Rattle.halo_life.proofs.group.Group.year_of_life.Goals as goal

pub returns : goal.returns
returns g c =
    let group = c.args.self.now in
    let k = c.args.k in
    let i = c.args.i in
    let next : k + 1 ≡ suc k = omega arith in
    let staying : c.survivors-staying.result ≡ survivors_in group (suc k) i = c.survivors-staying.ensures.value
    ∙ ap (λ t. survivors_in group t i) next in
    let leaving : c.counted_part-leaving.result
    ≡ cond c.args.counted (leavers_of_life group (asked c.args.causes) k i) 0 =
    c.counted_part-leaving.ensures ∙ ap (λ m. cond c.args.counted m 0) c.leavers.ensures.value in
    let parts : c.counted_part-leaving.result + c.survivors-staying.result ≤ c.survivors-alive.result =
    omega (
      arith,
      c.counted_part-leaving.ensures,
      counted-less c.args.counted c.leavers.result,
      c.leavers.ensures.part,
      c.survivors-staying.ensures.value,
      c.survivors-alive.ensures.value,
    ) in
    record {
      year = record {
        leaving = rw (leaving, c.survivors-alive.ensures.value) at c.share.ensures.chance;
        staying = rw (staying, c.survivors-alive.ensures.value) at c.share-2.ensures.chance;
        together = parts-together c.share.result
            c.share-2.result c.counted_part-leaving.result c.survivors-staying.result c.survivors-alive.result
            c.share.ensures.nobody
            c.share-2.ensures.nobody parts c.share.ensures.chance.encloses c.share-2.ensures.chance.encloses;
      };
    }
