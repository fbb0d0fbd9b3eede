use Rattle.std.proofs.Common.{◌≡◌, ◌∷◌, ◌++◌, sym, ◌∙◌, arith}
use Rattle.std.proofs.lemmas.Grind.{common_steps}
use Rattle.halo_text.specs.Number.{IsDigit, IsNumber}
use Rattle.halo_lex.specs.Lexeme.{BeginsWithout}
use Rattle.halo_symbol.specs.Characters.{letter_D}
use Rattle.halo_status.specs.declared.pay.Kind.{Kind}
use Rattle.halo_symbol.specs.Symbol.{Vary}
use Rattle.halo_symbol.specs.Bytes.{head_text}
use Rattle.halo_symbol.specs.Proper.{IsProperVary}
use Rattle.halo_symbol.proofs.Heads.{no_kind}
use Rattle.halo_symbol.proofs.head.read_head.Goals as goal

pub returns-in_err-read_kind-in-68-clause-none : goal.returns-in_err-read_kind-in-68-clause-none
returns-in_err-read_kind-in-68-clause-none c =
    let whole : c.args.name.now ≡ letter_D ∷ (c.split_at.result.0.now ++ c.split_at.result.1.now) =
    grind (arith, common_steps) in
    let count : IsNumber c.split_at.result.0.now = grind (arith, common_steps) in
    let stops : BeginsWithout IsDigit c.split_at.result.1.now = grind (arith, common_steps) in
    let none : (vary : Vary) (kind : Kind) → IsProperVary vary → c.args.name.now ≡ head_text vary kind → ⊥ =
    λ vary kind proper e. no_kind _ _ count stops c.in_err-read_kind-in-68.ensures.none vary kind proper (sym whole ∙ e)
    in
    grind (arith, none)
