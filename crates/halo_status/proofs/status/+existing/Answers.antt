-- A count of the members that exist decides for each kind of list.
use Rattle.std.proofs.Common.{arith, sym, ◌∙◌}
use Rattle.halo_status.proofs.Counts.{joint_exists, last_exists, count_has_room}
use Rattle.halo_status.proofs.Shapes.{tree_of-Joint, tree_of-Last}
use Rattle.halo_status.proofs.status.+existing.Goals as goal

pub Status::exists-returns-in-Joint : goal.Status::exists-returns-in-Joint
Status::exists-returns-in-Joint t c =
    rw (c.in-Joint.is, tree_of-Joint) (joint_exists _ _ c.in-Joint.members _
    (rw c.as_slice.ensures.items at c.count_existing.ensures) _ c.len.ensures.value)

pub Status::exists-returns-in-Last : goal.Status::exists-returns-in-Last
Status::exists-returns-in-Last t c =
    rw (c.in-Last.is, tree_of-Last) (last_exists _ _ c.in-Last.members _
    (rw c.as_slice-in-Last.ensures.items at c.count_existing-in-Last.ensures))

pub count_existing-overflow_add-count : goal.count_existing-overflow_add-count
count_existing-overflow_add-count t c =
    let there =
    count_has_room _ _ _ _ _ _ c.loop-member-test.true c.member-item.is (sym c.exists.ensures ∙ c.if-exists.true)
    c.loop-member.invariant in
    omega arith
