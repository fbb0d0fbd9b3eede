-- The marked member exists, and of all members one more than the others that have to.
use Rattle.std.proofs.Common.{◌≡◌, ℕ, ◌+◌, ◌*◌, ◌-◌, ap, sym, ◌∙◌, List, length, Bool}
use Rattle.halo_sums.specs.Masks.{has_bit}
use Rattle.halo_status.specs.Exists.{each_exists}
use Rattle.halo_status.specs.StatusTree.{trees_in}
use Rattle.halo_status.specs.View.{is_on}
use Rattle.halo_status.proofs.Words.{has_bit-and}
use Rattle.halo_status.proofs.Counts.{length-each_exists}
use Rattle.halo_compile.proofs.Members.{waiting}
use Rattle.halo_compile.proofs.existence.waits_at_rank.Goals as goal

pub returns : goal.returns
returns c = λ j h.
    let alive : ℕ → Bool = has_bit (64 * c.args.block + j) in
    let bs : List Bool = each_exists alive (is_on c.args.view c.args.t) (trees_in c.args.members.now) in
    let others : c.saturating_sub-others.result ≡ length bs - c.args.mark.rank =
    c.saturating_sub-others.ensures
    ∙ ap (λ n. n - c.args.mark.rank)
    (c.len.ensures.value ∙ sym (length-each_exists alive (is_on c.args.view c.args.t) c.args.members.now)) in
    has_bit-and c.member_exists.result c.exactly_in_block.result j
    ∙ waiting c.args.mark bs c.saturating_sub-others.result _ _ others (c.member_exists.ensures j h)
    (c.exactly_in_block.ensures j h)
