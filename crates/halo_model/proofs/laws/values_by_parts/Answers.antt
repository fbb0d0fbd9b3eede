use Rattle.halo_model.proofs.Annuities.{due-by-parts, immediate-by-parts}
use Rattle.halo_model.proofs.Insurances.{insurance-by-parts}
use Rattle.halo_model.proofs.laws.values_by_parts.Goals as goal

pub returns-clause-due : goal.returns-clause-due
returns-clause-due c = due-by-parts

pub returns-clause-immediate : goal.returns-clause-immediate
returns-clause-immediate c = immediate-by-parts

pub returns-clause-insurance : goal.returns-clause-insurance
returns-clause-insurance c = insurance-by-parts
