use Rattle.halo_num.proofs.Chances.{no_chances, one_chance_more}
use Rattle.halo_num.proofs.laws.products_of_chances.Goals as goal

pub returns-clause-none : goal.returns-clause-none
returns-clause-none c = no_chances

pub returns-clause-more : goal.returns-clause-more
returns-clause-more c = one_chance_more
