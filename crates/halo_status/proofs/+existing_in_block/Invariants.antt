-- The members seen and those that are left decide; of the counts, the members seen alone.
use Rattle.std.proofs.Common.{◌≡◌, ℕ, ◌+◌, ◌*◌, ◌<◌, ◌&&◌, ◌||◌, drop, get_or, length, nat_le, take}
use Rattle.std.specs.List.{list_all, list_any}
use Rattle.halo_sums.specs.Masks.{has_bit}
use Rattle.halo_status.specs.Blocks.{IsInBlock}
use Rattle.halo_status.specs.Exists.{each_exists}
use Rattle.halo_sums.specs.Sums.{count_true}
use Rattle.halo_status.specs.StatusTree.{trees_in}
use Rattle.halo_status.specs.View.{is_on}
use Rattle.halo_status.proofs.+existing_in_block.Given as goal

abbrev pub invariant-blocks::all_in_block-loop-member : goal.invariant-blocks::all_in_block-loop-member
invariant-blocks::all_in_block-loop-member l = (j : ℕ) → j < 64 →
    (has_bit l.all j && list_all (λ b. b)
    (each_exists (has_bit (64 * l.block + j)) (is_on l.view l.t) (trees_in (drop l.member-index l.members))))
    ≡ list_all (λ b. b) (each_exists (has_bit (64 * l.block + j)) (is_on l.view l.t) (trees_in l.members))

abbrev pub invariant-blocks::any_in_block-loop-member : goal.invariant-blocks::any_in_block-loop-member
invariant-blocks::any_in_block-loop-member l = (j : ℕ) → j < 64 →
    (has_bit l.any j || list_any (λ b. b)
    (each_exists (has_bit (64 * l.block + j)) (is_on l.view l.t) (trees_in (drop l.member-index l.members))))
    ≡ list_any (λ b. b) (each_exists (has_bit (64 * l.block + j)) (is_on l.view l.t) (trees_in l.members))

abbrev pub invariant-blocks::counts_in_block-loop-member : goal.invariant-blocks::counts_in_block-loop-member
invariant-blocks::counts_in_block-loop-member l =
    record {
      room : length l.counts ≡ 18;
      counts : (k : ℕ) → k < 18 → IsInBlock l.block (λ alive. nat_le k
          (count_true (each_exists alive (is_on l.view l.t) (trees_in (take l.member-index l.members)))))
          (get_or l.counts k 0);
    }
