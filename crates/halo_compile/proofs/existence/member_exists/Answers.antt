-- The member at a place exists, or there is none.
use Rattle.std.proofs.Common.{◌+◌, ◌*◌, arith, sym, ◌∙◌}
use Rattle.halo_sums.specs.Masks.{has_bit}
use Rattle.halo_status.specs.View.{is_on}
use Rattle.halo_status.proofs.Words.{has_bit-none}
use Rattle.halo_compile.proofs.Members.{member_there, no_member_there}
use Rattle.halo_compile.proofs.existence.member_exists.Goals as goal

pub returns-then-place-len : goal.returns-then-place-len
returns-then-place-len c =
    λ j h.
    c.exists_in_block.ensures j h
    ∙ sym (member_there (has_bit (64 * c.args.block + j)) (is_on c.args.view c.args.t) c.args.members.now c.args.place
    c.at.result.now c.at.ensures)

pub returns-else-place-len : goal.returns-else-place-len
returns-else-place-len c =
    λ j h.
    has_bit-none j
    ∙ sym (no_member_there (has_bit (64 * c.args.block + j)) (is_on c.args.view c.args.t) c.args.members.now
    c.args.place (omega (arith, c.if-place-len.false, c.len.ensures.value)))
