use Rattle.std.proofs.Common.{ap, ◌∙◌, arith, map}
use Rattle.std.proofs.lemmas.List.{take_all}
use Rattle.halo_lex.proofs.Splitting.{words_within}
use Rattle.halo_lex.specs.Words.{AreWords}
use Rattle.halo_syntax.specs.LineReading.{bytes_of}
use Rattle.halo_syntax.proofs.lines.Blanks.{text_at, words_at}
use Rattle.halo_syntax.proofs.words.words_in.Goals as goal

pub loop-span-init : goal.loop-span-init
loop-span-init c =
    let are : AreWords c.args.text.now c.in_ok-spans.spans.items = grind arith in
    record {
      within = rw c.deref-span-items.ensures.value (words_within c.args.text.now 0 c.in_ok-spans.spans.items are);
      read = ap bytes_of c.new-words.ensures.items;
    }

pub returns-clause-ok : goal.returns-clause-ok
returns-clause-ok c =
    let are : AreWords c.args.text.now c.in_ok-spans.spans.items = grind arith in
    let items = c.deref-span-items.result.now in
    c.loop-span.invariant.read
    ∙ ap (map (text_at c.args.text.now)) (take_all c.loop-span.span-index items c.loop-span-test.false
    ∙ c.deref-span-items.ensures.value)
    ∙ words_at c.args.text.now 0 c.in_ok-spans.spans.items are
