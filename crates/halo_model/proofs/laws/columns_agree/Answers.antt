use Rattle.halo_model.proofs.ColumnsAgree.{columns-agree-on-one-life}
use Rattle.halo_model.proofs.laws.columns_agree.Goals as goal

pub returns : goal.returns
returns c = columns-agree-on-one-life
