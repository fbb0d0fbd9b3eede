-- Chances, and the products of chances that are enclosed.
use Rattle.std.specs.Prelude.{ℕ, ◌+◌, ◌*◌, List, [], ◌∷◌, ◌++◌, length, pos}
use Rattle.halo_sums.specs.Sums.{product_over}
use Rattle.halo_num.specs.Ends.{Ends, HasWidth, IsWithin, fine}
use Rattle.halo_num.specs.Enclosure.{Encloses}

-- i encloses the chance n / d: it lies from 0 to 1, and is at most w fine units wide
pub record EnclosesChance (n d w : ℕ) (i : Ends) : Type 0 where
  pub encloses : Encloses i (pos n) d
  pub narrow : HasWidth i w
  pub within : IsWithin i (pos 0) (pos fine)

-- i encloses the product over a list of the chances n / d, of which each is enclosed at most w
-- wide: a factor adds its width and 1 for the rounding
abbrev pub EnclosesProduct : {X : Type 0} → (X → ℕ) → (X → ℕ) → ℕ → List X → Ends → Type 0
EnclosesProduct n d w xs i =
    EnclosesChance (product_over xs n) (product_over xs d) (length xs * (w + 1)) i

-- the product of no chances is 1
abbrev pub NoChancesAreSure : Type 0
NoChancesAreSure =
    (n d : ℕ → ℕ) (w : ℕ) → EnclosesProduct n d w [] (record { lo = pos fine; hi = pos fine })

-- the product of a list of chances and of one more is the product over the longer list
abbrev pub OneChanceMore : Type 0
OneChanceMore = (n d : ℕ → ℕ) (w : ℕ) (xs : List ℕ) (x : ℕ) (i : Ends)
    → EnclosesChance (product_over xs n * n x) (product_over xs d * d x)
    (length xs * (w + 1) + w + 1) i → EnclosesProduct n d w (xs ++ x ∷ []) i
