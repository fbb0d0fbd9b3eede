-- What holds of the bytes of a file holds of what is told of it.
use Rattle.std.proofs.Common.{◌≡◌, ℕ, List, Option, None, Some, subst}
use Rattle.std.specs.Prelude.{IfSome}

pub told : (file : Option (List ℕ)) (bytes : List ℕ) (P : List ℕ → Type 0) → IfSome file (λ all. bytes ≡ all) → P bytes
    → IfSome file P
told None bytes P same h = tt
told (Some all) bytes P same h = subst P same h
