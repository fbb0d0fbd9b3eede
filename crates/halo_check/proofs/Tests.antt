-- Tests that answer yes or no.
use Rattle.std.proofs.Common.{◌↔◌, Bool, true, false, not, refl}
use Rattle.std.specs.Option.{is_some}
use Rattle.std.specs.Prelude.{IfNone, IfSome, IsTrue, None, Option, Some}

-- a test turned round tells the contrary
pub not_iff : {P : Type 0} (b : Bool) → (IsTrue b ↔ P) → IsTrue (not b) ↔ (P → ⊥)
not_iff true h = (λ e p. absurd cc, λ none. absurd (none (h.0 refl)))
not_iff false h = (λ e p. cc (h.1 p), λ none. refl)

-- what a search finds shows P, and where it finds nothing P does not hold
pub some_iff : {X P : Type 0} (found : Option X) (Q : X → Type 0) → ((x : X) → Q x → P) → IfSome found Q
    → IfNone found (P → ⊥) → IsTrue (is_some found) ↔ P
some_iff None Q shows some none = (λ h. absurd cc, λ p. absurd (none p))
some_iff (Some x) Q shows some none = (λ h. shows x some, λ p. refl)
