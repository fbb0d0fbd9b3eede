use Rattle.std.proofs.Common.{◌≡◌, arith, false, subst, sym}
use Rattle.std.proofs.lemmas.Bool.{iff_false}
use Rattle.halo_text.specs.Number.{IsNumber}
use Rattle.halo_syntax.proofs.lines.NoLines.{no_pay}
use Rattle.halo_syntax.proofs.Texts.{same_length, text_is}
use Rattle.halo_syntax.proofs.read_form.read_pay.Goals as goal

pub returns-in_default-clause-syntax : goal.returns-in_default-clause-syntax
returns-in_default-clause-syntax c =
    λ _. no_pay _ _ (λ amount symbol deep is proper e. let same = same_length c.args.words.now _ e in grind arith)

pub returns-then-not-is_number-clause-syntax : goal.returns-then-not-is_number-clause-syntax
returns-then-not-is_number-clause-syntax c = λ _. no_pay _ _ (λ amount symbol deep is proper e.
    let other : c.is_number.result ≡ false = grind arith in
    iff_false c.is_number.ensures other (subst IsNumber (sym (text_is c.args.words.now _ e 0 _ (omega arith))) is))

pub returns-in_err-symbol-clause-syntax : goal.returns-in_err-symbol-clause-syntax
returns-in_err-symbol-clause-syntax c = λ failed. no_pay _ _ (λ amount symbol deep is proper e.
    c.in_err-symbol.ensures.syntax (grind arith) symbol deep (record {
      proper = proper;
      bytes = text_is c.args.words.now _ e 1 _ (grind arith);
    }))
