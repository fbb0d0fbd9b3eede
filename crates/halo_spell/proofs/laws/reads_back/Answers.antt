use Rattle.halo_spell.proofs.ReadsBack.{reads_back}
use Rattle.halo_spell.proofs.laws.reads_back.Goals as goal

pub returns : goal.returns
returns c = λ tables bytes contract sound writes. reads_back tables sound bytes contract writes
