use Rattle.halo_model.proofs.PartLines.{part-has-line}
use Rattle.halo_model.proofs.laws.parts_have_lines.Goals as goal

pub returns : goal.returns
returns c = part-has-line
