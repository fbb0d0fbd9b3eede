use Rattle.halo_spell.proofs.Spellable.{contracts_are_spellable}
use Rattle.halo_spell.proofs.laws.contracts_are_spellable.Goals as goal

pub returns : goal.returns
returns c = contracts_are_spellable
