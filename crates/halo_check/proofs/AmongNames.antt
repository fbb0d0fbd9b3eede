-- A name is among some names where it stands at one of their places.
use Rattle.std.proofs.Common.{◌≡◌, ◌<◌, ◌↔◌, ◌||◌, ℕ, zero, suc, Bool, true, false, List, [], ◌∷◌, bytes_eq, length, refl, arith}
use Rattle.std.specs.Prelude.{Contains, IsTrue, slice_index_or}
use Rattle.std.proofs.lemmas.Slice.Eq.{bytes_eq-Decides}
use Rattle.halo_check.specs.Draft.{is_among}

from_among : (names : List (List ℕ)) (name : List ℕ) → is_among names name ≡ true → Contains names name
from_among [] name e = absurd cc
from_among (n ∷ names) name e = go (bytes_eq n name) refl (λ h. from_among names name h)
  where
    go : (b : Bool) → bytes_eq n name ≡ b → (is_among names name ≡ true → Contains names name)
        → Contains (n ∷ names) name
    go true same rest = (0, omega arith, (bytes_eq-Decides n name).0 same)
    go false other rest = let found = rest (rw other at e) in (suc found.0, omega (arith, found.1), found.2)

to_among : (names : List (List ℕ)) (name : List ℕ) (p : ℕ) → p < length names → slice_index_or names p name ≡ name
    → is_among names name ≡ true
to_among [] name p lt at = absurd (omega (arith, lt))
to_among (n ∷ names) name zero lt at = rw ((bytes_eq-Decides n name).1 at) refl
to_among (n ∷ names) name (suc p) lt at =
    later (bytes_eq n name) (is_among names name) (to_among names name p (omega (arith, lt)) at)
  where
    later : (a b : Bool) → b ≡ true → (a || b) ≡ true
    later true b e = refl
    later false b e = e

pub among-Contains : (names : List (List ℕ)) (name : List ℕ) → IsTrue (is_among names name) ↔ Contains names name
among-Contains names name = (λ h. from_among names name h, λ (p, lt, at). to_among names name p lt at)
