use Rattle.halo_check.proofs.statuses.has_members_apart.Goals as goal

pub are_apart-requires : goal.are_apart-requires
are_apart-requires c = rw c.in-Some.ensures.some at c.requires
