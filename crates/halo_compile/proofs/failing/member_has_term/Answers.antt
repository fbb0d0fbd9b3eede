use Rattle.std.proofs.Common.{◌≡◌, arith, false, nat_lt}
use Rattle.std.proofs.lemmas.Bool.Decides.{nat_tests}
use Rattle.halo_compile.proofs.MembersAt.{member-is, no-member}
use Rattle.halo_compile.proofs.failing.member_has_term.Goals as goal

pub returns-then-place-len : goal.returns-then-place-len
returns-then-place-len c =
    rw (member-is c.args.members.now c.args.place c.at.result.now c.at.ensures) c.has_term.ensures

pub returns-else-place-len : goal.returns-else-place-len
returns-else-place-len c =
    let past : nat_lt c.args.place c.len.result ≡ false = grind (arith, nat_tests) in
    rw (no-member c.args.members.now c.args.place (omega (arith, c.if-place-len.false, c.len.ensures.value))) past
