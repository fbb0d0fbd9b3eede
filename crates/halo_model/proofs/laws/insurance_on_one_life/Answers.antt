use Rattle.halo_model.proofs.InsuranceOnOneLife.{insurance-on-one-life}
use Rattle.halo_model.proofs.laws.insurance_on_one_life.Goals as goal

pub returns : goal.returns
returns c = insurance-on-one-life
