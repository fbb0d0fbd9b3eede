use Rattle.std.proofs.Common.{sym, subst, arith}
use Rattle.std.proofs.lemmas.Bool.{iff_false}
use Rattle.halo_text.specs.Number.{IsNumber}
use Rattle.halo_lex.specs.Lexeme.{IsLongName}
use Rattle.halo_symbol.specs.Proper.{IsPlainName}
use Rattle.halo_syntax.proofs.lines.NoLines.{no_life}
use Rattle.halo_syntax.proofs.Texts.{same_length, text_is}
use Rattle.halo_syntax.proofs.read_form.read_life.Goals as goal
use Rattle.halo_syntax.proofs.read_form.read_life.Goals.{else-is_plain_name-via-then-is_plain_name+then-is_name+else-is_number, else-is_plain_name-via-then-is_plain_name+else-is_name, else-is_plain_name-via-else-is_plain_name}

pub returns-in_default-clause-syntax : goal.returns-in_default-clause-syntax
returns-in_default-clause-syntax c = λ _. no_life _ _ (λ name table age plain long number e.
    let same = same_length c.args.words.now _ e in grind arith)

pub returns-else-is_plain_name-clause-syntax : goal.returns-else-is_plain_name-clause-syntax
returns-else-is_plain_name-clause-syntax c = λ _. no_life _ _ (λ name table age plain long number e.
    let words = c.args.words.now in
    elim c.else-is_plain_name.branch [
      | else-is_plain_name-via-then-is_plain_name+then-is_name+else-is_number w ↦
          iff_false w.is_number.ensures w.if-is_number.false
          (subst IsNumber (sym (text_is words _ e 2 _ (omega arith))) number)
      | else-is_plain_name-via-then-is_plain_name+else-is_name w ↦
          iff_false w.is_name.ensures w.if-is_name.false
          (subst IsLongName (sym (text_is words _ e 1 _ (omega arith))) long)
      | else-is_plain_name-via-else-is_plain_name w ↦
          iff_false c.is_plain_name.ensures w.if-is_plain_name.false
          (subst IsPlainName (sym (text_is words _ e 0 _ (omega arith))) plain)
    ])
