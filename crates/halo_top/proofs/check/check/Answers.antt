use Rattle.halo_spell.proofs.Spellable.{spellable}
use Rattle.halo_top.proofs.check.check.Goals as goal

pub spell_contract-requires : goal.spell_contract-requires
spell_contract-requires c = spellable c.args.tables.now _ c.requires
