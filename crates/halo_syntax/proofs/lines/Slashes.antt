-- Words with a slash in them.
use Rattle.std.proofs.Common.{◌≡◌, ◌≢◌, ℕ, List, [], ◌∷◌, ◌++◌, ap, sym, ◌∙◌, refl, arith, get_or, drop}
use Rattle.std.specs.Prelude.{All, codes}
use Rattle.std.proofs.lemmas.List.{append_assoc}
use Rattle.std.proofs.lemmas.List.Elements.{All-head, All-tail, All-weaker}
use Rattle.halo_symbol.specs.Characters.{slash}
use Rattle.halo_text.specs.Number.{IsDigit, IsNumber}
use Rattle.halo_syntax.specs.Line.{fraction_word}

-- a byte that is no slash
abbrev pub IsNoSlash : ℕ → Type 0
IsNoSlash b = b ≢ slash

-- a number has no slash
pub number_has_none : (digits : List ℕ) → IsNumber digits → All IsNoSlash digits
number_has_none digits is = All-weaker IsDigit IsNoSlash (λ b digit e. omega (arith, digit.0, digit.1)) digits is.1

-- a word is cut at its first slash in one way
pub cut_one : (p r q s : List ℕ) → All IsNoSlash p → All IsNoSlash r → p ++ (slash ∷ q) ≡ r ++ (slash ∷ s)
    → (p ≡ r) × (q ≡ s)
cut_one [] [] q s a b e = (refl, cc)
cut_one [] (y ∷ r) q s a b e = absurd (All-head IsNoSlash y r b (sym (ap (λ w. get_or w 0 0) e)))
cut_one (x ∷ p) [] q s a b e = absurd (All-head IsNoSlash x p a (ap (λ w. get_or w 0 0) e))
cut_one (x ∷ p) (y ∷ r) q s a b e =
    let rest = cut_one p r q s (All-tail IsNoSlash x p a) (All-tail IsNoSlash y r b) (ap (drop 1) e) in
    let first : x ≡ y = ap (λ w. get_or w 0 0) e in
    (cc, rest.1)

-- a fraction is told by its word
pub fraction_one : (p q r s : List ℕ) → IsNumber p → IsNumber r → fraction_word p q ≡ fraction_word r s
    → (p ≡ r) × (q ≡ s)
fraction_one p q r s is_p is_r e =
    cut_one p r q s (number_has_none p is_p) (number_has_none r is_r)
    (sym (append_assoc p (codes "/") q) ∙ e ∙ append_assoc r (codes "/") s)
