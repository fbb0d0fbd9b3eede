use Rattle.halo_model.proofs.Outside.{no-chance-on-leaving-outside}
use Rattle.halo_model.proofs.Falls.{chance-on-leaving}
use Rattle.halo_model.proofs.NoChance.{no-chance-on-other-leaving}
use Rattle.halo_model.proofs.laws.chance_on_a_leaving.Goals as goal

pub returns-clause-chance : goal.returns-clause-chance
returns-clause-chance c = chance-on-leaving

pub returns-clause-none_on_others : goal.returns-clause-none_on_others
returns-clause-none_on_others c = no-chance-on-other-leaving

pub returns-clause-none_outside : goal.returns-clause-none_outside
returns-clause-none_outside c = no-chance-on-leaving-outside
