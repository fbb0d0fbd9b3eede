use Rattle.std.proofs.Common.{arith}
use Rattle.halo_syntax.proofs.lines.NoLines.{no_interest}
use Rattle.halo_syntax.proofs.Texts.{other_texts, same_length, text_is}
use Rattle.halo_syntax.proofs.interest.read_interest.Goals as goal

pub returns-in_default-clause-syntax : goal.returns-in_default-clause-syntax
returns-in_default-clause-syntax c =
    λ _. no_interest _ _ (λ p q rates is_p is_q proper e. let same = same_length c.args.words.now _ e in omega arith)

pub returns-in_default-split_fraction-clause-syntax : goal.returns-in_default-split_fraction-clause-syntax
returns-in_default-split_fraction-clause-syntax c = λ _. no_interest _ _ (λ p q rates is_p is_q proper e.
    c.in_default-split_fraction.ensures p q (record {
      p_is = is_p;
      q_is = is_q;
      word_is = text_is c.args.words.now _ e 0 _ (omega arith);
    }))

pub returns-in_err-later-clause-syntax : goal.returns-in_err-later-clause-syntax
returns-in_err-later-clause-syntax c = λ failed. no_interest _ _ (λ p q rates is_p is_q proper e.
    c.in_err-later.ensures.syntax (grind arith) rates proper (other_texts c.args.words.now _ _ e))
