use Rattle.halo_model.proofs.AnnuityBounds.{annuity-is-bounded, due-is-worth-one}
use Rattle.halo_model.proofs.laws.annuity_bounds.Goals as goal

pub returns-clause-most : goal.returns-clause-most
returns-clause-most c = annuity-is-bounded

pub returns-clause-least : goal.returns-clause-least
returns-clause-least c = due-is-worth-one
