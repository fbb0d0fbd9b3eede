-- The members that were put together are those that were read.
use Rattle.std.proofs.Common.{◌≡◌, ◌+◌, length, take}
use Rattle.halo_status.specs.StatusTree.{trees_in}
use Rattle.halo_symbol.specs.StatusOf.{trees_of_members}
use Rattle.halo_symbol.specs.View.{members_of, plain_node}
use Rattle.halo_check.specs.Draft.{place_of}
use Rattle.halo_contract.specs.PlainContract.{life_names}
use Rattle.halo_parse.proofs.status_from.+status_from.Given as goal

abbrev pub invariant-members_from-loop-member : goal.invariant-members_from-loop-member
invariant-members_from-loop-member l = record {
  all_are : trees_in l.all ≡ trees_of_members (place_of (life_names l.lives))
      (members_of (plain_node l.members.first.value) (take l.member-index l.members.others.items));
  count : length l.all ≡ l.member-index + 1;
}
