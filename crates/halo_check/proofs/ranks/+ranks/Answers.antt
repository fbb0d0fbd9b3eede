-- A walk over the members: each has ranks, or one has not.
use Rattle.halo_status.specs.Nodes.{AtEachNode, AtEachNodeIn}
use Rattle.halo_status.specs.ValidPay.{HasRank}
use Rattle.halo_check.proofs.MembersAt.{walk_ends, walk_on}
use Rattle.halo_check.proofs.ranks.+ranks.Goals as goal

pub have_ranks-returns-then-not-has_ranks : goal.have_ranks-returns-then-not-has_ranks
have_ranks-returns-then-not-has_ranks t c =
    walk_ends (AtEachNodeIn HasRank) (AtEachNode HasRank) (λ t ms. ((λ h. h), (λ h. h))) _ _ _ c.at.ensures _
    c.has_ranks.ensures c.loop-place.invariant c.if-not-has_ranks.true

pub have_ranks-loop-place-preserved : goal.have_ranks-loop-place-preserved
have_ranks-loop-place-preserved t c =
    walk_on (AtEachNodeIn HasRank) (AtEachNode HasRank) (λ t ms. ((λ h. h), (λ h. h))) _ _ _ c.at.ensures _
    c.has_ranks.ensures c.loop-place.invariant c.if-not-has_ranks.false
