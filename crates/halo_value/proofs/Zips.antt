-- Two lists that match, place by place.
use Rattle.std.proofs.Common.{◌≡◌, ℕ, zero, suc, ◌<◌, List, [], ◌∷◌, get_or, length, arith}
use Rattle.std.specs.List.{AllZip}

pub zip-at : {A B : Type 0} (R : A → B → Type 0) (xs : List A) (ys : List B) (k : ℕ) (d : A) (e : B)
    → AllZip R xs ys → k < length xs → R (get_or xs k d) (get_or ys k e)
zip-at R [] [] k d e all within = absurd (omega arith)
zip-at R (x ∷ xs) (y ∷ ys) zero d e all within = all.0
zip-at R (x ∷ xs) (y ∷ ys) (suc k) d e all within = zip-at R xs ys k d e all.1 (omega arith)
zip-at R [] (y ∷ ys) k d e all within = absurd all
zip-at R (x ∷ xs) [] k d e all within = absurd all

pub zip-places : {A B : Type 0} (R : A → B → Type 0) (xs : List A) (ys : List B) (d : A) (e : B)
    → length ys ≡ length xs → ((k : ℕ) → k < length xs → R (get_or xs k d) (get_or ys k e)) → AllZip R xs ys
zip-places R [] [] d e same each = tt
zip-places R (x ∷ xs) (y ∷ ys) d e same each = (
  each 0 (omega arith),
  zip-places R xs ys d e (omega (arith, same)) (λ k within. each (suc k) (omega (
    arith,
    within,
  ))),
)
zip-places R [] (y ∷ ys) d e same each = absurd (omega (arith, same))
zip-places R (x ∷ xs) [] d e same each = absurd (omega (arith, same))
