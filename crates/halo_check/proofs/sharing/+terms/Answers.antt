-- A walk over the members: each shares no term, or one does.
use Rattle.halo_status.specs.StatusTree.{tree_of}
use Rattle.halo_check.specs.Sharing.{SharesNoTerm, ShareNoTerm}
use Rattle.halo_check.proofs.ApartStatuses.{ShareNoTerm-more}
use Rattle.halo_check.proofs.MembersAt.{walk_ends, walk_on}
use Rattle.halo_check.proofs.sharing.+terms.Goals as goal

pub share_no_term-returns-then-not-shares_no_term : goal.share_no_term-returns-then-not-shares_no_term
share_no_term-returns-then-not-shares_no_term t c =
    let other = tree_of c.args.other.now in
    walk_ends (λ ms. ShareNoTerm ms other) (λ s. SharesNoTerm s other) (ShareNoTerm-more other) _ _ _ c.at.ensures _
    c.shares_no_term.ensures c.loop-place.invariant c.if-not-shares_no_term.true

pub share_no_term-loop-place-preserved : goal.share_no_term-loop-place-preserved
share_no_term-loop-place-preserved t c =
    let other = tree_of c.args.other.now in
    walk_on (λ ms. ShareNoTerm ms other) (λ s. SharesNoTerm s other) (ShareNoTerm-more other) _ _ _ c.at.ensures _
    c.shares_no_term.ensures c.loop-place.invariant c.if-not-shares_no_term.false
