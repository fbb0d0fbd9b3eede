use Rattle.halo_sample.proofs.SampleWords.{contract-is-words}
use Rattle.halo_sample.proofs.laws.contract_is_words.Goals as goal

pub returns : goal.returns
returns c = contract-is-words
