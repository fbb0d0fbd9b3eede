use Rattle.halo_syntax.proofs.lines.OneLine.{line_one}
use Rattle.halo_syntax.proofs.laws.line_is_one.Goals as goal

pub returns : goal.returns
returns c = line_one
