-- One pair of members more is looked at.
use borrow.Author.Count.{below_more}
use Rattle.halo_status.specs.StatusTree.{trees_in}
use Rattle.halo_check.specs.Sharing.{AreApartAt}
use Rattle.halo_check.proofs.ApartStatuses.{apart_at, not_apart_at}
use Rattle.halo_check.proofs.MembersAt.{lives_below-member}
use Rattle.halo_check.proofs.sharing.is_apart_from_earlier.Goals as goal

pub share_nothing-requires-clause-one : goal.share_nothing-requires-clause-one
share_nothing-requires-clause-one c = lives_below-member _ _ _ _ c.at.ensures c.requires.lives

pub share_nothing-requires-clause-other : goal.share_nothing-requires-clause-other
share_nothing-requires-clause-other c = lives_below-member _ _ _ _ c.at-in-loop-earlier.ensures c.requires.lives

pub returns-then-not-share_nothing : goal.returns-then-not-share_nothing
returns-then-not-share_nothing c = (
  (λ h. absurd (cc h)),
  (λ apart. not_apart_at c.args.members.now c.loop-earlier.earlier c.args.later _ _ c.at.ensures
      c.at-in-loop-earlier.ensures _ c.share_nothing.ensures c.if-not-share_nothing.true
      (apart _ c.loop-earlier-test.true)),
)

pub loop-earlier-preserved : goal.loop-earlier-preserved
loop-earlier-preserved c =
    let here =
    apart_at c.args.members.now c.loop-earlier.earlier c.args.later _ _ c.at.ensures c.at-in-loop-earlier.ensures _
    c.share_nothing.ensures c.if-not-share_nothing.false in
    below_more (λ earlier. AreApartAt (trees_in c.args.members.now) earlier c.args.later) _ c.loop-earlier.invariant
    here
