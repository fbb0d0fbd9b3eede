use Rattle.std.proofs.Common.{ℕ, ◌≡◌, Bool, List, Option, Some, None, ap, ◌∙◌, arith, cond, length, ltb, refl, rules, tests}
use Rattle.std.specs.List.{position_or_len}
use Rattle.std.specs.Option.{unwrap_or}
use Rattle.std.proofs.lemmas.Bool.{cond_both, ltb-false}
use Rattle.std.proofs.lemmas.Iterator.{YieldsList-from_slice}
use Rattle.std.proofs.lemmas.Iterator.Search.{position_from_yields_List}
use Rattle.std.proofs.lemmas.List.Sums.{prefix_len-le-length}
use Rattle.std.specs.Prelude.{not}
use Rattle.halo_syntax.specs.FileLines.{is_line_feed}
use Rattle.halo_syntax.proofs.file_lines.line_end.Goals as goal

-- the length stands for a place that is not found
or_length : (test : ℕ → Bool) (bytes : List ℕ) (found : Option ℕ)
    → found ≡ cond (ltb (position_or_len test bytes) (length bytes)) (Some (position_or_len test bytes)) None
    → unwrap_or found (length bytes) ≡ position_or_len test bytes
or_length test bytes found is =
    ap (λ o. unwrap_or o (length bytes)) is
    ∙ cond_both (ltb (position_or_len test bytes) (length bytes)) (Some (position_or_len test bytes)) None
    (λ o. unwrap_or o (length bytes) ≡ position_or_len test bytes)
    (λ _. refl)
    (λ past. omega (arith, ltb-false _ _ past, prefix_len-le-length (λ b. not (test b)) bytes))

pub returns : goal.returns
returns c =
    let found =
    position_from_yields_List is_line_feed _ _ c.position.result c.position.ensures.ran
    (YieldsList-from_slice c.args.bytes.now cc) (λ x b q k. search (rules, tests)) in
    c.unwrap_or.ensures ∙ or_length is_line_feed c.args.bytes.now c.position.result found
