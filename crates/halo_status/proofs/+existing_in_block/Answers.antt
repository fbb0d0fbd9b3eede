-- What exists on the sets of a block, bit by bit.
use Rattle.std.proofs.Common.{ℕ, ◌+◌, ◌*◌, ◌<◌, ◌≤◌, Bool, arith, refl, ap, sym, ◌∙◌, ⊎_elim, nat_le}
use Rattle.std.proofs.lemmas.Bool.{cases_lt}
use Rattle.halo_sums.specs.Masks.{has_bit}
use Rattle.halo_status.specs.Exists.{each_exists}
use Rattle.halo_sums.specs.Sums.{count_true}
use Rattle.halo_status.specs.StatusTree.{trees_in}
use Rattle.halo_status.specs.View.{is_on}
use Rattle.halo_status.proofs.InBlock.{all_more, all_seen, any_more, counted_more, first_counts, past_counts, seen_at}
use Rattle.halo_status.proofs.Shapes.{tree_of-After}
use Rattle.halo_status.proofs.Words.{has_bit-all, has_bit-and_not}
use Rattle.halo_status.proofs.+existing_in_block.Goals as goal

pub status::Status::exists_in_block-returns-in-After : goal.status::Status::exists_in_block-returns-in-After
status::Status::exists_in_block-returns-in-After t c =
    λ j h. rw (c.in-After.is, tree_of-After c.in-After.first c.in-After.then)
    (has_bit-and_not c.exists_in_block.result c.exists_in_block-in-After.result j _ _
    (omega arith) h (rw c.deref.ensures at (c.exists_in_block.ensures j h))
    (rw c.deref-in-After.ensures at (c.exists_in_block-in-After.ensures j h)))

pub blocks::all_in_block-loop-member-init : goal.blocks::all_in_block-loop-member-init
blocks::all_in_block-loop-member-init t c = λ j h. rw (has_bit-all j h) refl

pub blocks::all_in_block-loop-member-preserved : goal.blocks::all_in_block-loop-member-preserved
blocks::all_in_block-loop-member-preserved t c = λ j h.
    all_more (has_bit (64 * c.args.block + j)) (is_on c.args.view c.args.t)
    c.args.members.now c.loop-member.member-index c.member-item.result c.loop-member-test.true c.member-item.is
    c.loop-member.all c.exists_in_block-all.result j _ (c.exists_in_block-all.ensures j h) (c.loop-member.invariant j h)

pub blocks::any_in_block-loop-member-preserved : goal.blocks::any_in_block-loop-member-preserved
blocks::any_in_block-loop-member-preserved t c = λ j h.
    any_more (has_bit (64 * c.args.block + j)) (is_on c.args.view c.args.t)
    c.args.members.now c.loop-member.member-index c.member-item.result c.loop-member-test.true c.member-item.is
    c.loop-member.any c.exists_in_block-any.result j _ (c.exists_in_block-any.ensures j h) (c.loop-member.invariant j h)

pub blocks::counts_in_block-loop-member-init : goal.blocks::counts_in_block-loop-member-init
blocks::counts_in_block-loop-member-init t c = record { room = refl; counts = λ k few j h. first_counts k j h }

pub blocks::counts_in_block-loop-member-preserved : goal.blocks::counts_in_block-loop-member-preserved
blocks::counts_in_block-loop-member-preserved t c = record {
  room = c.count_more.ensures.length ∙ c.loop-member.invariant.room;
  counts = λ k few j h.
      let alive : ℕ → Bool = has_bit (64 * c.args.block + j) in
      let on : ℕ → Bool = is_on c.args.view c.args.t in
      ap (λ n. has_bit n j) (c.count_more.ensures.counts k (omega (arith, c.loop-member.invariant.room)))
      ∙ counted_more c.loop-member.counts c.exists_in_block.result k _ j _
      (c.exists_in_block.ensures j h) (λ i within. c.loop-member.invariant.counts i (omega arith) j h)
      ∙ ap (λ n. nat_le k n) (sym (seen_at alive on
      c.args.members.now c.loop-member.member-index c.member-item.result c.loop-member-test.true c.member-item.is));
}

pub blocks::counts_in_block-returns : goal.blocks::counts_in_block-returns
blocks::counts_in_block-returns t c = λ k j h.
    let alive : ℕ → Bool = has_bit (64 * c.args.block + j) in
    let on : ℕ → Bool = is_on c.args.view c.args.t in
    ⊎_elim
    (λ (few : k < 18). c.loop-member.invariant.counts k few j h
    ∙ ap (λ ss. nat_le k (count_true (each_exists alive on (trees_in ss))))
    (all_seen c.args.members.now c.loop-member.member-index (omega (arith, c.loop-member-test.false))))
    (λ (many : 18 ≤ k).
    past_counts alive on c.args.members.now c.loop-member.counts k j c.requires c.loop-member.invariant.room many)
    (cases_lt k 18)
