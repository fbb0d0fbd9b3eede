use Rattle.std.proofs.Common.{arith}
use Rattle.halo_syntax.proofs.lines.NoLines.{no_premium}
use Rattle.halo_syntax.proofs.Texts.{same_length, text_is}
use Rattle.halo_syntax.proofs.read_form.read_premium.Goals as goal

pub returns-in_default-clause-syntax : goal.returns-in_default-clause-syntax
returns-in_default-clause-syntax c =
    λ _. no_premium _ _ (λ status deep proper e. let same = same_length c.args.words.now _ e in grind arith)

pub returns-in_err-status-clause-syntax : goal.returns-in_err-status-clause-syntax
returns-in_err-status-clause-syntax c = λ failed. no_premium _ _ (λ status deep proper e.
    c.in_err-status.ensures.syntax (grind arith) status deep (record {
      proper = proper;
      bytes = text_is c.args.words.now _ e 0 _ (grind arith);
    }))
