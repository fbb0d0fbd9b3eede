use Rattle.std.proofs.Common.{◌<◌, ◌∷◌, ap, ap₂, drop, sym, ◌∙◌, arith, length}
use Rattle.std.specs.Prelude.{not}
use Rattle.std.proofs.lemmas.Grind.{common_steps}
use Rattle.std.proofs.lemmas.List.{drop-drop}
use Rattle.std.proofs.lemmas.List.Sums.{prefix_len-le-length}
use Rattle.halo_syntax.specs.FileLines.{is_line_feed, without_return}
use Rattle.halo_syntax.specs.LinesLeft.{lines_left}
use Rattle.halo_syntax.proofs.lines.Cutting.{lines_left-next}
use Rattle.halo_syntax.proofs.file_lines.Lines.next.Goals as goal

pub split_at-requires : goal.split_at-requires
split_at-requires c =
    omega (arith, c.line_end-end.ensures, prefix_len-le-length (λ b. not (is_line_feed b)) c.self.inside.left.now)

pub returns : goal.returns
returns c =
    let left = c.self.inside.left.now in
    let some : 0 < length left = grind (arith, common_steps) in
    let line = c.without_return.ensures ∙ ap without_return c.split_at.ensures.front in
    let behind =
    c.without_first-self-inside.ensures ∙ ap (drop 1) c.split_at.ensures.back
    ∙ drop-drop 1 c.line_end-end.result left in
    sym c.self.view_is
    ∙ lines_left-next left c.line_end-end.result some c.line_end-end.ensures
    ∙ ap₂ (λ first rest. first ∷ lines_left rest) (sym line) (sym behind)
