use Rattle.halo_status.proofs.Shapes.{tree_of-Joint}
use Rattle.halo_compile.proofs.failing.failing_lives.Goals as goal

pub member_lives-requires : goal.member_lives-requires
member_lives-requires c = rw (c.in-Joint.is, tree_of-Joint c.in-Joint.members) at c.requires
