use Rattle.std.proofs.Common.{sym, arith, subst}
use Rattle.std.specs.Prelude.{All}
use Rattle.std.proofs.lemmas.Bool.{iff_false}
use Rattle.halo_text.specs.Number.{IsNumber}
use Rattle.halo_lex.specs.Lexeme.{IsLongName}
use Rattle.halo_syntax.proofs.lines.NoLines.{no_reserve}
use Rattle.halo_syntax.proofs.Texts.{other_texts, same_length, text_is}
use Rattle.halo_syntax.proofs.read_form.read_reserve.Goals as goal
use Rattle.halo_syntax.proofs.read_form.read_reserve.Goals.{else-is_number-via-then-is_number+else-are_names, else-is_number-via-else-is_number}

pub returns-in_default-clause-syntax : goal.returns-in_default-clause-syntax
returns-in_default-clause-syntax c =
    λ _. no_reserve _ _ (λ time names is all e. let same = same_length c.args.words.now _ e in omega arith)

pub returns-else-is_number-clause-syntax : goal.returns-else-is_number-clause-syntax
returns-else-is_number-clause-syntax c = λ _. no_reserve _ _ (λ time names is all e.
    elim c.else-is_number.branch [
      | else-is_number-via-then-is_number+else-are_names w ↦
          iff_false w.are_names.ensures w.if-are_names.false
          (subst (All IsLongName) (sym (other_texts c.args.words.now _ _ e)) all)
      | else-is_number-via-else-is_number w ↦
          iff_false c.is_number.ensures w.if-is_number.false
          (subst IsNumber (sym (text_is c.args.words.now _ e 0 _ (omega arith))) is)
    ])
