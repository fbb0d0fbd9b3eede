use Rattle.halo_check.proofs.AtStart.{start_told}
use Rattle.halo_check.proofs.statuses.exists_at_start.Goals as goal

pub returns-in-Premium : goal.returns-in-Premium
returns-in-Premium c =
    λ tables d l adds. start_told tables d l c.in-Premium.pay c.exists.result (rw c.in-Premium.is at adds)
    (rw c.in-Premium.is at c.requires) c.exists.ensures
