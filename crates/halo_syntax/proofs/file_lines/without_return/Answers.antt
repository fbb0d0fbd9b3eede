use Rattle.std.proofs.Common.{◌≡◌, ◌≢◌, ℕ, List, [], ◌∷◌, ◌++◌, Option, Some, None, MatchOption, Bor, ap, sym, ◌∙◌}
use Rattle.std.specs.Option.{unwrap_or}
use Rattle.std.proofs.lemmas.Bool.Decides.{Decides-eqb}
use Rattle.std.proofs.lemmas.Slice.Eq.{strip_suffix_is}
use Rattle.halo_syntax.specs.FileLines.{without_return}
use Rattle.halo_syntax.proofs.lines.Cutting.{without_return-at, without_return-none}
use Rattle.halo_syntax.proofs.file_lines.without_return.Goals as goal

-- what is left of a line when a carriage return at its end is taken off
or_line : (line : Bor (List ℕ)) (stripped : Option (Bor (List ℕ)))
    → MatchOption stripped ((front : List ℕ) → line.now ≢ front ++ 13 ∷ []) (λ front. line.now ≡ front.now ++ 13 ∷ [])
    → (unwrap_or stripped line).now ≡ without_return line.now
or_line line None none = sym (without_return-none line.now none)
or_line line (Some front) is = sym (ap without_return is ∙ without_return-at front.now)

pub returns : goal.returns
returns c =
    ap (λ (line : Bor (List ℕ)). line.now) c.unwrap_or.ensures
    ∙ or_line c.args.line c.strip_suffix.result
    (strip_suffix_is Decides-eqb c.args.line.now (13 ∷ []) c.strip_suffix.result c.strip_suffix.ensures.cases)
