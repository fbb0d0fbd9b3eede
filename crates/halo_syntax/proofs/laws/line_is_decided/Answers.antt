use Rattle.halo_syntax.proofs.lines.LineChoices.{line_choice}
use Rattle.halo_syntax.proofs.laws.line_is_decided.Goals as goal

pub returns : goal.returns
returns c = line_choice
