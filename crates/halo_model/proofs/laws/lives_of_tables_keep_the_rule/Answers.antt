use Rattle.halo_model.proofs.FromTables.{lives_of-AreLives}
use Rattle.halo_model.proofs.laws.lives_of_tables_keep_the_rule.Goals as goal

pub returns : goal.returns
returns c = lives_of-AreLives
