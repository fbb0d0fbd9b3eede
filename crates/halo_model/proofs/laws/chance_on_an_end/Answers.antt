use Rattle.halo_model.proofs.Outside.{no-chance-on-end-outside}
use Rattle.halo_model.proofs.Ends.{chance-on-end}
use Rattle.halo_model.proofs.NoChance.{no-chance-on-other-end}
use Rattle.halo_model.proofs.laws.chance_on_an_end.Goals as goal

pub returns-clause-chance : goal.returns-clause-chance
returns-clause-chance c = chance-on-end

pub returns-clause-none_on_others : goal.returns-clause-none_on_others
returns-clause-none_on_others c = no-chance-on-other-end

pub returns-clause-none_outside : goal.returns-clause-none_outside
returns-clause-none_outside c = no-chance-on-end-outside
