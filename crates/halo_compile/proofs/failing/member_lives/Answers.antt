use Rattle.std.proofs.Common.{arith}
use Rattle.halo_status.proofs.Words.{has_bit-none}
use Rattle.halo_compile.proofs.MembersAt.{member-is, member-names, no-member}
use Rattle.halo_compile.proofs.failing.member_lives.Goals as goal

pub lives-requires : goal.lives-requires
lives-requires c =
    λ i named. c.requires i (member-names c.args.members.now c.args.place c.at.result.now i c.at.ensures named)

pub returns-then-place-len : goal.returns-then-place-len
returns-then-place-len c =
    λ i. rw (member-is c.args.members.now c.args.place c.at.result.now c.at.ensures) (c.lives.ensures i)

pub returns-else-place-len : goal.returns-else-place-len
returns-else-place-len c =
    λ i. rw (no-member c.args.members.now c.args.place (omega (arith, c.if-place-len.false, c.len.ensures.value)))
    (has_bit-none i)
