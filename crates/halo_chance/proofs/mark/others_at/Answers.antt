-- The table grows by each member but the one that is left out.
use Rattle.std.proofs.Common.{◌≡◌, ◌-◌, arith, true, length}
use Rattle.halo_status.specs.StatusTree.{trees_in}
use Rattle.halo_status.specs.View.{is_on}
use Rattle.halo_model.specs.PartsByTree.{others_of}
use Rattle.halo_status.proofs.NamedMembers.{nodes-at}
use Rattle.halo_chance.proofs.Costs.{cost-member, cost-none, length-nodes}
use Rattle.halo_chance.proofs.Others.{others-all, others-at, others-next, others-none}
use Rattle.halo_chance.proofs.Parts.{named-member}
use Rattle.halo_chance.proofs.Tables.{entry-read, table-at, table-more, table-none}
use Rattle.halo_chance.proofs.mark.others_at.Goals as goal

pub loop-i-init : goal.loop-i-init
loop-i-init g c =
    rw (others-none c.args.members.now c.args.member c.len-i.result c.requires.member c.len-i.ensures.value) (
      table-none c.args.lives.now (is_on c.args.view c.args.t) true c.args.place c.table_of_none-table.result
          (λ place within.
          c.table_of_none-table.ensures.chances place
          (omega (arith, c.requires.place, c.len-i.ensures.few, c.len-i.ensures.value))),
      c.table_of_none-table.ensures.within,
      cost-none _ _,
    )

pub along-other-requires-clause-named : goal.along-other-requires-clause-named
along-other-requires-clause-named g c =
    named-member (length c.args.lives.now) c.args.members.now (c.loop-i.i - 1) c.at.result.now c.at.ensures
    c.requires.named

pub loop-i-preserved-then-i-member : goal.loop-i-preserved-then-i-member
loop-i-preserved-then-i-member g c =
    rw (others-next c.args.members.now c.args.member c.loop-i.i c.at.result.now c.loop-i-test.true c.if-i-member.true
    c.at.ensures) (
      table-more c.args.lives.now (is_on c.args.view c.args.t) true c.args.place _ _ c.along-other.result c.loop-i.table
          c.with_member-table.result c.loop-i.invariant.0 c.along-other.ensures.chance c.with_member-table.ensures.next
          c.with_member-table.ensures.first,
      c.with_member-table.ensures.within,
      cost-member _ _ c.along-other.new.steps _ _ _ _ c.loop-i.invariant.2 c.along-other.ensures.cost
          (omega (arith, c.with_member-table.ensures.cost, c.requires.place, length-nodes c.args.members.now))
          (nodes-at c.args.members.now (c.loop-i.i - 1) c.at.result.now c.at.ensures),
    )

pub loop-i-preserved : goal.loop-i-preserved
loop-i-preserved g c =
    rw (others-at c.args.members.now c.args.member c.loop-i.i c.loop-i-test.true c.if-i-member.false c.requires.member)
    (c.loop-i.invariant.0, c.loop-i.invariant.1, c.loop-i.invariant.2)

pub returns-clause-chance : goal.returns-clause-chance
returns-clause-chance g c =
    let seen : c.loop-i.i ≡ 0 = omega (arith, c.loop-i-test.false) in
    let table = rw (seen, others-all c.args.members.now c.args.member) at c.loop-i.invariant.0 in
    rw (← entry-read c.loop-i.table c.args.place c.index-table-place.result
    (omega (arith, c.loop-i.invariant.1.room, c.requires.place, c.len-i.ensures.few, c.len-i.ensures.value)))
    (table-at c.args.lives.now (is_on c.args.view c.args.t) true c.args.place
    (others_of (trees_in c.args.members.now) c.args.member) c.loop-i.table table)
