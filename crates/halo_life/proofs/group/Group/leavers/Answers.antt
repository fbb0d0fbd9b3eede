use Rattle.std.proofs.Common.{◌≡◌, ◌+◌, length, suc, cond, arith, ap}
use Rattle.halo_table.specs.DecrementTable.{leavers_at}
use Rattle.halo_model.specs.Chance.{asked}
use Rattle.halo_model.specs.Horizon.{life_at}
use Rattle.halo_life.specs.PlainGroup.{leavers_of_life}
use Rattle.halo_life.proofs.Sums.{sum_over-numbers_push}
use Rattle.halo_life.proofs.YearChances.{group-splits}
use Rattle.halo_life.proofs.group.Group.leavers.Goals as goal

pub loop-cause-preserved : goal.loop-cause-preserved
loop-cause-preserved g c =
    let life = life_at c.args.self.now.lives c.args.i in
    let next = sum_over-numbers_push c.loop-cause.cause
    (λ j. cond (asked c.args.causes j) (leavers_at c.args.self.now.file life.table (life.age + c.args.k) j) 0) in
    record {
      sum = omega (arith, next, c.loop-cause.invariant.sum, c.leavers_if_asked-leavers.ensures.count);
      small = omega (arith, c.loop-cause.invariant.small, c.leavers_if_asked-leavers.ensures.small);
    }

pub returns-clause-value : goal.returns-clause-value
returns-clause-value g c =
    let end : c.loop-cause.cause ≡ length c.args.self.now.file.causes =
    omega (
      arith,
      c.loop-cause-test.false,
      c.causes-cause-end.ensures.all,
      ap (λ file. length file.causes) c.tables-tables.ensures.value,
    ) in
    rw end at c.loop-cause.invariant.sum

pub returns-clause-part : goal.returns-clause-part
returns-clause-part g c =
    let end : c.loop-cause.cause ≡ length c.args.self.now.file.causes =
    omega (
      arith,
      c.loop-cause-test.false,
      c.causes-cause-end.ensures.all,
      ap (λ file. length file.causes) c.tables-tables.ensures.value,
    ) in
    let value : c.loop-cause.leavers ≡ leavers_of_life c.args.self.now (asked c.args.causes) c.args.k c.args.i =
    rw end at c.loop-cause.invariant.sum in
    let next : c.args.k + 1 ≡ suc c.args.k = omega arith in
    rw (value, next) (group-splits g.row.N c.args.self.now c.tables-tables.ensures.group
    (asked c.args.causes) c.args.k c.args.i c.requires.life)
