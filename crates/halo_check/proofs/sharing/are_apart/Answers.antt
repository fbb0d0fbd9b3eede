-- One member more is looked at, and in the end each shares nothing with those before it.
use Rattle.std.proofs.Common.{arith, refl}
use borrow.Author.Count.{below_more}
use Rattle.halo_status.specs.StatusTree.{trees_in}
use Rattle.halo_check.specs.Sharing.{IsApartAt}
use Rattle.halo_check.proofs.ApartStatuses.{apart_at_each}
use Rattle.halo_check.proofs.MembersAt.{member_count-trees_in}
use Rattle.halo_check.proofs.sharing.are_apart.Goals as goal

pub loop-later-preserved : goal.loop-later-preserved
loop-later-preserved c =
    below_more (IsApartAt (trees_in c.args.members.now)) _ c.loop-later.invariant
    (c.is_apart_from_earlier.ensures.0 c.if-not-is_apart_from_earlier.false)

pub returns : goal.returns
returns c = (
  (λ h. apart_at_each _ (λ later below. c.loop-later.invariant later
      (omega (arith, member_count-trees_in c.args.members.now)))),
  (λ h. refl),
)
