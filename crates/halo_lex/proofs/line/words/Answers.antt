use Rattle.std.proofs.Common.{[], subst}
use Rattle.std.proofs.lemmas.List.{append-nil}
use Rattle.halo_lex.specs.Words.{AreWords}
use Rattle.halo_lex.proofs.line.words.Goals as goal

pub returns : goal.returns
returns c =
    subst (AreWords c.args.line.now) (append-nil c.loop-word.found.items)
    (c.loop-word.invariant.found [] c.in_default.ensures.none)
