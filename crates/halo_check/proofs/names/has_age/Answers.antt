use Rattle.halo_check.proofs.Places.{among_of_row}
use Rattle.halo_check.proofs.names.has_age.Goals as goal

pub returns-in-None : goal.returns-in-None
returns-in-None c = rw c.in-Life.is (λ h. absurd cc, λ row. absurd (c.in-None.ensures.none (among_of_row _ _ _ row)))
