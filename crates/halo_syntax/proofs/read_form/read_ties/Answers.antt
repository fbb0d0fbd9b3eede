use Rattle.std.proofs.Common.{arith}
use Rattle.halo_syntax.proofs.lines.NoLines.{no_ties}
use Rattle.halo_syntax.proofs.Texts.{same_length, text_is}
use Rattle.halo_syntax.proofs.read_form.read_ties.Goals as goal

pub returns-in_default-clause-syntax : goal.returns-in_default-clause-syntax
returns-in_default-clause-syntax c =
    λ _. no_ties _ _ (λ rule e. let same = same_length c.args.words.now _ e in grind arith)

pub returns-in-None-clause-syntax : goal.returns-in-None-clause-syntax
returns-in-None-clause-syntax c =
    λ _. no_ties _ _ (λ rule e. c.in-None.ensures rule (text_is c.args.words.now _ e 0 _ (omega arith)))
