use Rattle.std.proofs.Common.{◌-◌, ◌∷◌, ap, sym, ◌∙◌, arith, drop, length, take}
use Rattle.halo_syntax.specs.LineReading.{bytes_of}
use Rattle.halo_syntax.proofs.lines.Deep.{no_line_at_all}
use Rattle.halo_syntax.proofs.lines.NoLines.{no_keyword}
use Rattle.halo_syntax.proofs.Texts.{first_text}
use Rattle.halo_syntax.proofs.reading.read_line.Goals as goal

pub returns-in_default-read_keyword-clause-syntax : goal.returns-in_default-read_keyword-clause-syntax
returns-in_default-read_keyword-clause-syntax c = λ _ shallow.
    let words = c.as_slice.result.now in
    let read =
    sym (first_text words _ c.in-len1-up.len_at_least) ∙ ap bytes_of c.as_slice.ensures.value
    ∙ c.in_ok-words.ensures.ok in
    no_line_at_all c.args.text.now _ read (no_keyword _ _ _ c.in_default-read_keyword.ensures) shallow

pub returns-in_err-line-clause-syntax : goal.returns-in_err-line-clause-syntax
returns-in_err-line-clause-syntax c = λ failed shallow.
    let words = c.as_slice.result.now in
    let read =
    sym (first_text words _ c.in-len1-up.len_at_least) ∙ ap bytes_of c.as_slice.ensures.value
    ∙ c.in_ok-words.ensures.ok in
    let rest = bytes_of (take (length words - 1) (drop 1 words)) in
    no_line_at_all c.args.text.now _ (ap (λ word. word ∷ rest) (sym c.in-Some.ensures) ∙ read)
    (c.in_err-line.ensures.syntax (grind arith)) shallow
