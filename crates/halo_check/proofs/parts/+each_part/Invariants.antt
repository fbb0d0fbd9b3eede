use Rattle.std.proofs.Common.{take}
use Rattle.halo_check.proofs.BodyParts.{AllHave}
use Rattle.halo_check.proofs.parts.+each_part.Given as goal

abbrev pub invariant-all_pass-loop-member : goal.invariant-all_pass-loop-member
invariant-all_pass-loop-member g l =
    AllHave (g.T.PartTest.member_fact l.test) (g.T.PartTest.list_fact l.test) (take l.member-index l.members)
